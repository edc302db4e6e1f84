use Rattle.std.proofs.Common.{◌≡◌}
use Rattle.damaged_recordings.proofs.outcome.read_blocks.Given as goal

abbrev pub invariant-loop-block : goal.invariant-loop-block
invariant-loop-block l = l.journal.blocks ≡ l.fn.journal.blocks
