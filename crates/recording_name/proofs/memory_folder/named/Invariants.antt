use Rattle.std.proofs.Common.{◌≡◌, take}
use Rattle.recording_name.specs.Memory.{state_of}
use Rattle.recording_name.proofs.memory_folder.named.Given as goal

abbrev pub invariant-loop-event : goal.invariant-loop-event
invariant-loop-event l = l.file ≡ (state_of (take l.event-index l.events)).names l.name
