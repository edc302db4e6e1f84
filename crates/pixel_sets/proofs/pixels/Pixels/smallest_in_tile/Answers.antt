use Rattle.pixel_sets.specs.Pixels.{pixels_of}
use Rattle.pixel_sets.proofs.Held.{no_part, part_smallest, tile_part}
use Rattle.pixel_sets.proofs.pixels.Pixels.smallest_in_tile.Goals as goal

pub returns-in_default : goal.returns-in_default
returns-in_default c =
    let s = c.self.inside in
    rw (← c.self.view_is)
    (no_part (pixels_of s.size.width s.size.height s.words.items) c.args.tile c.args.area (rw (← c.self.view_is) at c.requires.area.columns) (rw (c.tile_area.ensures, c.tiles_of-columns.ensures.is, c.in_default.is) at c.common.ensures))

pub smallest_in-requires : goal.smallest_in-requires
smallest_in-requires c =
    let s = c.self.inside in
    rw (c.deref.ensures.value, c.tiles_of-columns.ensures.is)
    (tile_part s.size.width s.size.height c.args.tile s.words.items s.summary.items c.args.area c.in-Some.part c.self.invariant (rw (← c.self.view_is) at c.requires.area.columns) (rw (← c.self.view_is) at c.requires.area.rows)
    (rw (c.tile_area.ensures, c.tiles_of-columns.ensures.is) at c.in-Some.ensures))

pub returns : goal.returns
returns c =
    let s = c.self.inside in
    rw (← c.self.view_is)
    (part_smallest s.size.width s.size.height s.words.items c.args.tile c.args.area c.in-Some.part c.smallest_in.result (rw (← c.self.view_is) at c.requires.area.columns) (rw (← c.self.view_is) at c.requires.area.rows)
    (rw (c.tile_area.ensures, c.tiles_of-columns.ensures.is) at c.in-Some.ensures) (rw (c.deref.ensures.value, c.tiles_of-columns.ensures.is) at c.smallest_in.ensures))
