use Rattle.painter.specs.WholeRows.{AreMoved}
use Rattle.painter.proofs.shared_rows.move_up.Given as goal

-- the rows so far are moved
abbrev pub invariant-loop-k : goal.invariant-loop-k
invariant-loop-k l = AreMoved l.fn.from l.fn.to l.k l.initial.kept l.kept
