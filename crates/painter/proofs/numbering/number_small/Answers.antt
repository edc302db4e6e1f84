use Rattle.std.proofs.Common.{◌<◌, ◌∙◌, ap, sym, length, arith}
use Rattle.std.proofs.lemmas.List.{get_or-map}
use Rattle.pixel_format.specs.Canvas.{black}
use Rattle.pixel_format.specs.Pixel.{converted}
use Rattle.painter.specs.Pixels.{color_of}
use Rattle.painter.specs.Sent.{seen_colors}
use Rattle.painter.proofs.SentNumbers.{number_more}
use Rattle.painter.proofs.numbering.number_small.Goals as goal

pub loop-k-preserved : goal.loop-k-preserved
loop-k-preserved c =
    let f = c.args.format.now in
    let row = c.args.row.now in
    let k = c.loop-k.k in
    let fits : k < length c.loop-k.numbers = omega (arith, c.loop-k-test.true, c.loop-k.auto.numbers, c.requires.room) in
    number_more f (seen_colors f row) c.loop-k.numbers k c.number_of.result c.convert_small.result fits c.loop-k.invariant c.number_of.ensures.color
    (c.convert_small.ensures.value ∙ ap (converted f) (c.color_of_pixel.ensures.value ∙ ap color_of c.index-row-k.is)
    ∙ sym (get_or-map (λ p. converted f (color_of p)) row k c.index-row-k.result black c.loop-k-test.true))
    c.number_of.ensures.number
