use Rattle.std.proofs.Common.{◌≡◌, ◌<◌, ℕ, length, reverse, slice_index, if◌then◌else◌}
use Rattle.disk.specs.Memory.{is_touched}
use Rattle.disk.proofs.memory.crash.overwrite_to_sync.Given as goal

abbrev pub invariant-loop-write : goal.invariant-loop-write
invariant-loop-write l =
    (length l.file.items ≡ length l.initial.file.items)
    × ((p : ℕ) → p < length l.initial.file.items → (if is_touched (reverse l.events.items) p then l.byte else slice_index l.file.items p) ≡ (if is_touched (reverse l.initial.events.items) p then l.byte else slice_index l.initial.file.items p))

abbrev pub decreases-loop-write : goal.decreases-loop-write
decreases-loop-write l = length l.events.items
