use Rattle.std.proofs.Common.{length}
use Rattle.terms.proofs.Progress.{Progress}
use Rattle.painter.proofs.SentNumbers.{AreRowNumbers}
use Rattle.painter.proofs.numbering.append_row.Given as goal

abbrev pub invariant-loop-rest : goal.invariant-loop-rest
invariant-loop-rest l = Progress (AreRowNumbers l.format) l.fn.row l.rest l.fn.out.items l.out.items

abbrev pub decreases-loop-rest : goal.decreases-loop-rest
decreases-loop-rest l = length l.rest
