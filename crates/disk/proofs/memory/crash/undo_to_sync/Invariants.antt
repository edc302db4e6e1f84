use Rattle.std.proofs.Common.{◌≡◌, length, reverse}
use Rattle.disk.specs.Memory.{held_of}
use Rattle.disk.proofs.memory.crash.undo_to_sync.Given as goal

abbrev pub invariant-loop-write : goal.invariant-loop-write
invariant-loop-write l = held_of l.file.items (reverse l.events.items) ≡ held_of l.initial.file.items (reverse l.initial.events.items)

abbrev pub decreases-loop-write : goal.decreases-loop-write
decreases-loop-write l = length l.events.items
