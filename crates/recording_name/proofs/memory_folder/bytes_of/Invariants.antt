use Rattle.std.proofs.Common.{◌≡◌, take}
use Rattle.recording_name.specs.Memory.{state_of}
use Rattle.recording_name.proofs.memory_folder.bytes_of.Given as goal

abbrev pub invariant-loop-event : goal.invariant-loop-event
invariant-loop-event l = l.bytes.items ≡ ((state_of (take l.event-index l.events)).files l.file).now
