use Rattle.std.proofs.Common.{◌≡◌, ◌+◌, ℕ}
use Rattle.fbs_export.specs.Reader.{Came}
use Rattle.fbs_export.proofs.checking.read_content.Given as goal

-- the data so far are in the stream
abbrev pub invariant-loop-left : goal.invariant-loop-left
invariant-loop-left g l = (done : ℕ) × (done + l.left ≡ l.length) × Came g.T.Tally.stands_for (g.R.Read.remaining l.fn.file) (g.R.Read.remaining l.file) l.fn.stream l.stream done

abbrev pub decreases-loop-left : goal.decreases-loop-left
decreases-loop-left g l = l.left
