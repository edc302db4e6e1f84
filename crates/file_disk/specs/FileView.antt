-- What contracts see of a disk over a file.
use Rattle.std.specs.Prelude.{ℕ}

-- the file, and how many calls of the disk have failed
pub record FileView (F : Type 0) : Type 0 where
  pub file : F
  pub failures : ℕ
