use Rattle.std.proofs.Common.{[]}
use Rattle.painter.specs.Numbered.{AreNumbersOf}
use Rattle.terms.specs.Appending.{Appends}
use Rattle.painter.proofs.SentRows.{sent_rows}
use Rattle.painter.proofs.numbering.number_area.Given as goal

-- the first rows are numbered
abbrev pub invariant-loop-row : goal.invariant-loop-row
invariant-loop-row g l = Appends (AreNumbersOf l.format (sent_rows l.format (g.R.Rows.shown l.rows) l.fn.area l.row)) [] l.numbers.items
