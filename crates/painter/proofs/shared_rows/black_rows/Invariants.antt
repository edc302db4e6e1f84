use Rattle.std.proofs.Common.{◌≡◌}
use Rattle.painter.specs.WholeRows.{first_rows}
use Rattle.painter.proofs.BlackRows.{dark}
use Rattle.painter.proofs.shared_rows.black_rows.Given as goal

-- the first rows are there
abbrev pub invariant-loop : goal.invariant-loop
invariant-loop l = record {
  rows : l.rows.items ≡ first_rows (dark l.fn.size.width l.fn.size.height) l.counter;
}
