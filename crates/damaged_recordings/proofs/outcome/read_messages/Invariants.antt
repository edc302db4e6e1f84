use Rattle.std.proofs.Common.{◌≡◌}
use Rattle.damaged_recordings.proofs.outcome.read_messages.Given as goal

abbrev pub invariant-loop-number : goal.invariant-loop-number
invariant-loop-number l = l.index.numbers ≡ l.fn.index.numbers
