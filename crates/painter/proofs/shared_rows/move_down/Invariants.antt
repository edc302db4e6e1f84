use Rattle.std.proofs.Common.{◌+◌, ◌-◌, ◌≤◌}
use Rattle.painter.specs.WholeRows.{AreMoved}
use Rattle.painter.proofs.shared_rows.move_down.Given as goal

-- the rows from this one on are moved
abbrev pub invariant-loop-k : goal.invariant-loop-k
invariant-loop-k l = record {
  some : l.k ≤ l.fn.count;
  moved : AreMoved (l.fn.from + l.k) (l.fn.to + l.k) (l.fn.count - l.k) l.initial.kept l.kept;
}

abbrev pub decreases-loop-k : goal.decreases-loop-k
decreases-loop-k l = l.k
