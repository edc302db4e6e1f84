use Rattle.std.proofs.Common.{◌≡◌, ◌+◌, ◌-◌, ◌*◌, ◌≤◌, ◌∙◌, length, take, drop, arith}
use Rattle.std.proofs.lemmas.List.{length-take, length-drop}
use Rattle.std.proofs.Math.Nat.{mul-le-mul_left}
use Rattle.pixel_format.specs.Canvas.{Picture}
use Rattle.painter.specs.Pixels.{color_in, color_of}
use Rattle.painter.proofs.Rows.{line_put, row_below, range_len}
use Rattle.painter.proofs.rectangle.fill_rows.Goals as goal

pub loop-row-preserved : goal.loop-row-preserved
loop-row-preserved c = λ x y across.
    let area = c.args.area in
    let width = c.args.width in
    let row = c.loop-row.row in
    let start = (area.y + row) * width + area.x in
    let reach : area.y + row + 1 ≤ area.y + area.h = omega arith in
    let inside : (area.y + row) * width + area.x + area.w ≤ length c.loop-row.pixels = omega (arith, mul-le-mul_left width reach) in
    let line = c.fill_row.new.row in
    let picture : Picture = λ x y. color_of c.args.pixel in
    let part : length (take (start + area.w - start) (drop start c.loop-row.pixels)) ≡ area.w = rw (length-take, length-drop) (omega (arith, inside)) in
    let told = rw (c.from-top.ensures, c.from-left.ensures, c.from-w.ensures, c.from-width.ensures) at c.fill_row.auto.row in
    let colors = rw (c.from-top.ensures, c.from-left.ensures, c.from-w.ensures, c.from-width.ensures) at c.fill_row.ensures in
    let writes = line_put c.loop-row.pixels line width area picture row c.requires.columns inside (told ∙ part) (λ k lt. colors k (omega (arith, part, lt))) in
    let inv = rw c.from-width.ensures at (c.loop-row.invariant x y across) in
    rw (c.from-top.ensures, c.from-left.ensures, c.from-w.ensures, c.from-width.ensures, range_len ((area.y + row) * width + area.x) area.w)
    (row_below c.loop-row.pixels _ width area picture (color_in c.args.pixels.now width x y) row x y writes (omega (arith, across)) inv)
