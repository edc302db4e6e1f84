use Rattle.std.proofs.Common.{◌≡◌, ℕ, ◌<◌, drop}
use Rattle.std.specs.Prelude.{◌||◌}
use Rattle.pixel_sets.specs.Pixels.{SameSize, holds}
use Rattle.shared_updates.specs.Copies.{is_copied}
use Rattle.shared_updates.proofs.copies.Copies.give_up.Given as goal

-- those that are left go to the pixels that aren't there yet
abbrev pub invariant-loop-copy : goal.invariant-loop-copy
invariant-loop-copy l = record {
  size : SameSize l.fn.stale l.stale;
  just : (x y : ℕ) → x < l.stale.width → y < l.stale.height
      → (is_copied (drop l.copy-index l.copy-items) x y || holds l.stale x y) ≡ (is_copied l.copy-items x y || holds l.fn.stale x y);
}
