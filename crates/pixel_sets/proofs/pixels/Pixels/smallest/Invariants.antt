use Rattle.std.proofs.Common.{◌-◌}
use Rattle.std.specs.Prelude.{IfSome}
use Rattle.terms.specs.Area.{HasPixels, IsSmallestOf}
use Rattle.pixel_sets.specs.Pixels.{tile_count}
use Rattle.pixel_sets.proofs.Looked.{is_looked_at}
use Rattle.pixel_sets.proofs.pixels.Pixels.smallest.Given as goal

-- the tiles before the next one are looked at
abbrev pub invariant-tiles : goal.invariant-tiles
invariant-tiles l = record {
  is : IsSmallestOf (is_looked_at l.self l.area l.next) l.found;
  pixels : IfSome l.found HasPixels;
}

abbrev pub decreases-tiles : goal.decreases-tiles
decreases-tiles l = tile_count l.self - l.next
