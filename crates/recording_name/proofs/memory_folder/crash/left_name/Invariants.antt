use Rattle.std.proofs.Common.{Contains, Option, ℕ, length}
use Rattle.recording_name.specs.Memory.{state_of}
use Rattle.recording_name.proofs.memory_folder.crash.left_name.Given as goal

abbrev pub invariant-loop-event : goal.invariant-loop-event
invariant-loop-event l = (x : Option ℕ) → Contains ((state_of l.earlier).recent l.name) x → Contains ((state_of l.events).recent l.name) x

abbrev pub decreases-loop-event : goal.decreases-loop-event
decreases-loop-event l = length l.earlier
