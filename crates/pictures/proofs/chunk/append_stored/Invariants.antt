use Rattle.std.proofs.Common.{◌≡◌, ◌++◌, length}
use Rattle.pictures.specs.Chunks.{stored}
use Rattle.pictures.proofs.chunk.append_stored.Given as goal

-- what is written and what is left are all of it
abbrev pub invariant-loop-rest : goal.invariant-loop-rest
invariant-loop-rest l = l.out.items ++ stored l.rest ≡ l.fn.out.items ++ stored l.bytes

abbrev pub decreases-loop-rest : goal.decreases-loop-rest
decreases-loop-rest l = length l.rest
