use Rattle.std.proofs.Common.{◌≡◌, ℕ, ◌≤◌, ◌-◌, true}
use Rattle.terms.specs.Area.{is_in}
use Rattle.pixel_sets.specs.Pixels.{holds, tile_of}
use Rattle.pixel_sets.proofs.pixels.Pixels.next_tile.Given as goal

-- no tile before the next one has a pixel of the set in the area
abbrev pub invariant-loop-next : goal.invariant-loop-next
invariant-loop-next l = record {
  from_on : l.from ≤ l.next;
  first : (x y : ℕ) → is_in l.area x y ≡ true → holds l.self x y ≡ true → l.from ≤ tile_of l.self x y → l.next ≤ tile_of l.self x y;
}

abbrev pub decreases-loop-next : goal.decreases-loop-next
decreases-loop-next l = l.end - l.next
