-- Disks round another one.
use Rattle.std.specs.Prelude.{ℕ, Bool}

-- the disk inside, and how many calls of the outer one have failed
pub record Wrapped (D : Type 0) : Type 0 where
  pub disk : D
  pub failures : ℕ

-- the same, and whether the newest moment of the disk inside is a write that a stop met
pub record Fused (D : Type 0) : Type 0 where
  pub disk : D
  pub failures : ℕ
  pub ends_in_stopped_write : Bool
