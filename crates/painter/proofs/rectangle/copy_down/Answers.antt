use Rattle.std.proofs.Common.{◌≡◌, ◌+◌, ◌-◌, ◌<◌, ◌∙◌, arith}
use Rattle.std.proofs.lemmas.Grind.{common_steps}
use Rattle.rect_codec.specs.Picture.{copied_picture}
use Rattle.painter.specs.Pixels.{color_in}
use Rattle.painter.proofs.Rows.{rows_from, row_copied, row_above}
use Rattle.painter.proofs.rectangle.copy_down.Goals as goal

pub loop-row-preserved : goal.loop-row-preserved
loop-row-preserved c =
    let area = c.args.area in
    let source = c.args.source in
    let width = c.args.width in
    let row = c.loop-row.row - 1 in
    let initial = color_in c.args.pixels.now width in
    let copied = rw (c.from-top.ensures, c.from-left.ensures, c.from-from_top.ensures, c.from-from_left.ensures, c.from-w.ensures, c.from-width.ensures) at c.copy_row.ensures.copied in
    let below = rw (c.from-top.ensures, c.from-left.ensures, c.from-width.ensures) at c.copy_row.ensures.below in
    let following = rw (c.from-top.ensures, c.from-left.ensures, c.from-w.ensures, c.from-width.ensures) at c.copy_row.ensures.following in
    let next : c.loop-row.row ≡ row + 1 = omega (arith, c.loop-row-test.true) in
    let so_far = rw (c.from-width.ensures, next) at c.loop-row.invariant.copied in
    let within : row < area.h = omega (arith, next, c.loop-row.invariant.some) in
    let writes = row_copied c.loop-row.pixels c.copy_row.new.pixels width source area (rows_from area (row + 1)) initial row c.requires.area.columns c.requires.source.columns
    (λ k slot. let top = slot.top in omega (arith, c.requires.below)) so_far copied below following in
    record {
      some = omega (arith, c.loop-row.invariant.some);
      len = c.copy_row.ensures.length ∙ c.loop-row.invariant.len;
      copied = rw c.from-width.ensures
          (λ x y across. row_above c.loop-row.pixels c.copy_row.new.pixels width area (copied_picture source area initial) (initial x y) row x y writes across within (so_far x y across));
    }

pub copy_row-requires-clause-source : goal.copy_row-requires-clause-source
copy_row-requires-clause-source c = grind (arith, common_steps)

pub copy_row-requires-clause-destination : goal.copy_row-requires-clause-destination
copy_row-requires-clause-destination c = grind (arith, common_steps)
