use Rattle.std.proofs.Common.{◌+◌, ◌*◌, ◌≤◌, ◌∙◌, length, arith}
use Rattle.std.proofs.Math.Nat.{mul-le-mul_left}
use Rattle.pixel_format.specs.Format.{host_format}
use Rattle.rect_codec.specs.Picture.{raw_picture}
use Rattle.painter.specs.Pixels.{color_in}
use Rattle.painter.proofs.Rows.{Written, line_put, raw_row, row_below, range_len, written}
use Rattle.painter.proofs.rectangle.paint_raw.Goals as goal

pub loop-row-preserved : goal.loop-row-preserved
loop-row-preserved c = λ x y across.
    let area = c.args.area in
    let row = c.loop-row.row in
    let reach : area.y + row + 1 ≤ area.y + area.h = omega arith in
    let inside : (area.y + row) * c.args.width + area.x + area.w ≤ length c.loop-row.pixels = omega (arith, mul-le-mul_left c.args.width reach) in
    let line = c.paint_row.new.row in
    let told =
    written c.loop-row.pixels line c.args.bytes.now ((c.from-top.result + row) * c.from-width.result + c.from-left.result) c.from-w.result (row * c.from-w.result)
    (rw (c.from-top.ensures, c.from-left.ensures, c.from-w.ensures, c.from-width.ensures) inside) c.paint_row.auto.row c.paint_row.ensures in
    let told : Written line c.args.bytes.now (row * area.w) area.w = rw c.from-w.ensures at told in
    let writes =
    line_put c.loop-row.pixels line c.args.width area (raw_picture host_format area c.args.bytes.now) row c.requires.area.columns inside told.len (λ k lt. told.colors k lt ∙ raw_row area c.args.bytes.now row k lt) in
    let inv = rw c.from-width.ensures at (c.loop-row.invariant x y across) in
    rw (c.from-top.ensures, c.from-left.ensures, c.from-w.ensures, c.from-width.ensures, range_len ((area.y + row) * c.args.width + area.x) area.w)
    (row_below c.loop-row.pixels _ c.args.width area (raw_picture host_format area c.args.bytes.now) (color_in c.args.pixels.now c.args.width x y) row x y writes (omega (arith, across)) inv)
