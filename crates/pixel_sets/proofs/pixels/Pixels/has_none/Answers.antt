use Rattle.std.proofs.Common.{◌∙◌, sym, arith}
use Rattle.std.proofs.lemmas.Grind.{common_steps}
use Rattle.pixel_sets.proofs.PixelSets.{common_within}
use Rattle.pixel_sets.proofs.Clean.{not_clean}
use Rattle.pixel_sets.proofs.pixels.Pixels.has_none.Goals as goal

pub overflow_add-area : goal.overflow_add-area
overflow_add-area c =
    let high = c.self.invariant.high in
    let rows = rw (← c.self.view_is) at c.requires.rows in
    omega arith

pub next_tile-requires : goal.next_tile-requires
next_tile-requires c =
    let both = common_within c.args.area _ c.in-Some.part c.in-Some.ensures in
    let right = both.0.right in
    let bottom = both.0.bottom in
    let columns = c.requires.columns in
    let rows = c.requires.rows in
    record { columns = omega arith; rows = omega arith }

pub returns-then-is_some : goal.returns-then-is_some
returns-then-is_some c = not_clean c.args.self.now c.args.area _ c.in-Some.part c.next_tile.result c.in-Some.ensures (sym c.is_some.ensures ∙ c.if-is_some.true) c.next_tile.ensures

pub loop-row-preserved : goal.loop-row-preserved
loop-row-preserved c = grind (arith, common_steps)
