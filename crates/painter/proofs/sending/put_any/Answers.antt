use Rattle.std.proofs.Common.{◌∙◌, ap}
use Rattle.pixel_format.specs.Pixel.{converted}
use Rattle.painter.specs.Pixels.{color_of}
use Rattle.painter.proofs.SentRows.{row_more}
use Rattle.painter.proofs.sending.put_any.Goals as goal

pub loop-k-preserved : goal.loop-k-preserved
loop-k-preserved c =
    let f = c.args.format.now in
    row_more f c.args.row.now c.loop-k.bytes c.put.new.bytes c.loop-k.k c.args.size c.index-row-k.result c.convert-color.result c.requires.size (c.loop-k.auto.bytes ∙ c.requires.room)
    c.loop-k-test.true c.put.auto.bytes c.loop-k.invariant c.put.ensures.bytes c.put.ensures.color
    (c.convert-color.ensures.value ∙ ap (converted f) (c.color_of_pixel.ensures.value ∙ ap color_of c.index-row-k.is))
