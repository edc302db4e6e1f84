use Rattle.std.proofs.Common.{◌≡◌}
use Rattle.painter.specs.WholeRows.{AreKept, first_rows}
use Rattle.painter.proofs.shared_rows.keep_rows.Given as goal

-- the first rows are there, and are kept
abbrev pub invariant-loop-y : goal.invariant-loop-y
invariant-loop-y l = record {
  kept : AreKept l.sheet l.kept;
  rows : l.rows.items ≡ first_rows l.sheet l.y;
}
