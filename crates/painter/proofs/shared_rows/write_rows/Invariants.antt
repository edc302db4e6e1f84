use Rattle.painter.proofs.WholeRows.{AreWritten}
use Rattle.painter.proofs.shared_rows.write_rows.Given as goal

-- the rows so far are written
abbrev pub invariant-loop-row : goal.invariant-loop-row
invariant-loop-row l = AreWritten l.rows l.row-index l.start l.pixels
