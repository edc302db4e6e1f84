-- A write as a memory disk keeps it, so that it can be undone.
use Rattle.std.specs.Prelude.{ℕ, List}

-- its range, the file's length before it, and the bytes that it replaced
pub record Overwrite : Type 0 where
  pub offset : ℕ
  pub count : ℕ
  pub length_before : ℕ
  pub replaced : List ℕ
