use Rattle.std.proofs.Common.{◌≡◌, ◌*◌, length, ◌∙◌, ap, arith}
use Rattle.std.proofs.lemmas.Grind.{common_steps}
use Rattle.std.proofs.Math.Nat.{mul-le-mul_left}
use Rattle.pixel_format.specs.Pixel.{converted, pixel_of}
use Rattle.painter.specs.Pixels.{color_of}
use Rattle.painter.proofs.SentRows.{row_more}
use Rattle.painter.proofs.sending.put_small.Goals as goal

pub loop-k-preserved : goal.loop-k-preserved
loop-k-preserved c =
    let f = c.args.format.now in
    row_more f c.args.row.now c.loop-k.bytes c.write_number.new.bytes c.loop-k.k c.args.size c.index-row-k.result c.convert_small.result c.requires.size (c.loop-k.auto.bytes ∙ c.requires.room)
    c.loop-k-test.true c.write_number.auto.bytes c.loop-k.invariant
    (c.write_number.ensures.bytes ∙ ap (pixel_of f) c.small_number-number.ensures.color)
    (c.write_number.ensures.color ∙ c.small_number-number.ensures.color)
    (c.convert_small.ensures.value ∙ ap (converted f) (c.color_of_pixel.ensures.value ∙ ap color_of c.index-row-k.is))

pub slice_bounds-write_number-end : goal.slice_bounds-write_number-end
slice_bounds-write_number-end c =
    let room : length c.loop-k.bytes ≡ length c.args.row.now * c.args.size = c.loop-k.auto.bytes ∙ c.requires.room in
    omega (arith, room, mul-le-mul_left c.args.size c.loop-k-test.true)

pub overflow_add-start : goal.overflow_add-start
overflow_add-start c = grind (arith, common_steps)
