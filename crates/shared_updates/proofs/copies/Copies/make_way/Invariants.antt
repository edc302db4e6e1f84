use Rattle.std.proofs.Common.{◌≡◌, ℕ, ◌<◌, drop}
use Rattle.std.specs.Prelude.{◌||◌}
use Rattle.pixel_sets.specs.Pixels.{SameSize, holds}
use Rattle.shared_updates.specs.Copies.{is_copied}
use Rattle.shared_updates.proofs.copies.Copies.make_way.Given as goal

-- those that are left go to the pixels that aren't there yet
abbrev pub invariant-loop-last : goal.invariant-loop-last
invariant-loop-last l = record {
  size : SameSize l.fn.stale l.stale;
  just : (x y : ℕ) → x < l.stale.width → y < l.stale.height
      → (is_copied (drop l.last-index l.last-items) x y || holds l.stale x y) ≡ (is_copied l.last-items x y || holds l.fn.stale x y);
}
