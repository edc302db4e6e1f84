use Rattle.std.proofs.Common.{◌≡◌, length}
use Rattle.drill_script.specs.Reading.{joined_at}
use Rattle.drill_script.proofs.Joined.{with_front}
use Rattle.drill_script.proofs.reading.joined_words.Given as goal

abbrev pub invariant-loop-joined : goal.invariant-loop-joined
invariant-loop-joined l = with_front l.joined.items (joined_at l.words) ≡ joined_at l.initial.words

abbrev pub decreases-loop-joined : goal.decreases-loop-joined
decreases-loop-joined l = length l.words
