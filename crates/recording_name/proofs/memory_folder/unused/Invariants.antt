use Rattle.std.proofs.Common.{take}
use Rattle.recording_name.specs.Memory.{state_of, IsBelow}
use Rattle.recording_name.proofs.memory_folder.unused.Given as goal

abbrev pub invariant-loop-event : goal.invariant-loop-event
invariant-loop-event l = IsBelow l.next (state_of (take l.event-index l.events))
