-- What holds a half of a number.
use Rattle.std.specs.Prelude.{ℕ, ◌+◌}
use Rattle.atomic_table.specs.Seated.{TableId}

-- which number it is, by the name of the table of its copies, and what it is
pub record Tallied : Type 0 where
  pub table : TableId
  pub number : ℕ

-- the same number, with so much added
abbrev pub raised_by : ℕ → Tallied → Tallied
raised_by count t = record { table = t.table; number = t.number + count }
