use Rattle.std.proofs.Common.{◌-◌, ◌≤◌, vec_len}
use Rattle.pixel_sets.specs.Pixels.{tile_count, AreFirstTiles}
use Rattle.pixel_sets.proofs.pixels.Pixels.areas.Given as goal

-- the areas so far are those of the tiles before the next one
abbrev pub invariant-tiles : goal.invariant-tiles
invariant-tiles l = record {
  first : AreFirstTiles l.self l.area 0 l.next l.areas.items;
  few : vec_len l.areas ≤ 4096;
}

abbrev pub decreases-tiles : goal.decreases-tiles
decreases-tiles l = tile_count l.self - l.next
