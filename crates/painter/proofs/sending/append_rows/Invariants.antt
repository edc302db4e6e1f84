use Rattle.rect_codec.specs.Written.{ArePixels}
use Rattle.terms.specs.Appending.{Appends}
use Rattle.painter.proofs.SentRows.{sent_rows}
use Rattle.painter.proofs.sending.append_rows.Given as goal

-- the first rows are appended
abbrev pub invariant-loop-row : goal.invariant-loop-row
invariant-loop-row g l = Appends (ArePixels l.format (sent_rows l.format (g.R.Rows.shown l.rows) l.fn.area l.row)) l.fn.out.items l.out.items
