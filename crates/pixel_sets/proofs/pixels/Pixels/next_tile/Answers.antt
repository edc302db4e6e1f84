use Rattle.std.proofs.Common.{arith}
use Rattle.std.proofs.lemmas.Grind.{common_steps}
use Rattle.pixel_sets.specs.Pixels.{pixels_of}
use Rattle.pixel_sets.proofs.Looked.{none_left_over, none_after, before_first, before_next, first_on, first_tile}
use Rattle.pixel_sets.proofs.pixels.Pixels.next_tile.Goals as goal

pub returns-in_default : goal.returns-in_default
returns-in_default c =
    let s = c.self.inside in
    let before = rw (← c.self.view_is) at c.loop-next.invariant.first in
    rw (← c.self.view_is)
    (none_left_over s.size.width s.size.height s.words.items s.summary.items c.args.area c.args.from c.loop-next.next c.self.invariant (rw (← c.self.view_is) at c.requires.columns) (rw (← c.self.view_is) at c.requires.rows)
    before (rw (c.in_default.is, c.tile_at-end.ensures, c.tiles_of-columns.ensures.is, c.deref.ensures.value) at c.first.ensures))

pub returns-in-Some-smallest_in_tile : goal.returns-in-Some-smallest_in_tile
returns-in-Some-smallest_in_tile c =
    let s = c.self.inside in
    let before = rw (← c.self.view_is) at c.loop-next.invariant.first in
    let first = rw (c.in-Some.is, c.tile_at-end.ensures, c.tiles_of-columns.ensures.is, c.deref.ensures.value) at c.first.ensures in
    let is = rw (c.in-Some-smallest_in_tile.is, ← c.self.view_is) at c.smallest_in_tile.ensures in
    rw (← c.self.view_is)
    (first_tile s.size.width s.size.height s.words.items s.summary.items c.args.area c.args.from c.loop-next.next c.in-Some.tile c.in-Some-smallest_in_tile.area c.self.invariant
    (rw (← c.self.view_is) at c.requires.columns) (rw (← c.self.view_is) at c.requires.rows) (omega arith) (omega arith) c.loop-next.invariant.from_on before first is)

pub loop-next-preserved : goal.loop-next-preserved
loop-next-preserved c =
    let s = c.self.inside in
    let before = rw (← c.self.view_is) at c.loop-next.invariant.first in
    let first = rw (c.in-Some.is, c.tile_at-end.ensures, c.tiles_of-columns.ensures.is, c.deref.ensures.value) at c.first.ensures in
    let none = rw (c.in_default-smallest_in_tile.is, ← c.self.view_is) at c.smallest_in_tile.ensures in
    let on = first_on s.summary.items c.loop-next.next _ c.in-Some.tile first in
    let from_on = c.loop-next.invariant.from_on in
    record {
      from_on = omega (arith, on, from_on);
      first = rw (← c.self.view_is)
          (before_next (pixels_of s.size.width s.size.height s.words.items) c.args.area c.args.from c.in-Some.tile
          (before_first s.size.width s.size.height s.words.items s.summary.items c.args.area c.args.from c.loop-next.next c.in-Some.tile c.self.invariant
          (rw (← c.self.view_is) at c.requires.columns) (rw (← c.self.view_is) at c.requires.rows) before first) none);
    }

pub returns : goal.returns
returns c =
    let s = c.self.inside in
    rw (← c.self.view_is)
    (none_after (pixels_of s.size.width s.size.height s.words.items) c.args.area c.args.from c.loop-next.next (rw (← c.self.view_is) at c.loop-next.invariant.first)
    (rw (c.tile_at-end.ensures, c.tiles_of-columns.ensures.is) at c.loop-next-test.false))

pub loop-next-init : goal.loop-next-init
loop-next-init c = grind (arith, common_steps)

pub smallest_in_tile-requires-clause-tile : goal.smallest_in_tile-requires-clause-tile
smallest_in_tile-requires-clause-tile c = grind (arith, common_steps)
