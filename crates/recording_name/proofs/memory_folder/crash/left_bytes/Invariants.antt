use Rattle.std.proofs.Common.{◌≡◌, take}
use Rattle.disk.specs.Contents.{MayLeave}
use Rattle.recording_name.specs.Memory.{state_of}
use Rattle.recording_name.proofs.memory_folder.crash.left_bytes.Given as goal

abbrev pub invariant-loop-event : goal.invariant-loop-event
invariant-loop-event l = record {
  now : l.now.items ≡ ((state_of (take l.event-index l.events)).files l.file).now;
  left : MayLeave ((state_of (take l.event-index l.events)).files l.file) l.left.items;
}
