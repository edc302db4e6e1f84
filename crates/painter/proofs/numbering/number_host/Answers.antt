use Rattle.std.proofs.Common.{◌<◌, ◌∙◌, ap, sym, length, refl, arith}
use Rattle.std.proofs.lemmas.List.{get_or-map}
use Rattle.pixel_format.specs.Canvas.{black}
use Rattle.pixel_format.specs.Format.{host_format}
use Rattle.pixel_format.specs.Pixel.{converted}
use Rattle.painter.specs.Pixels.{color_of}
use Rattle.painter.specs.Sent.{seen_colors}
use Rattle.painter.proofs.SentRows.{same_color, host_number}
use Rattle.painter.proofs.SentNumbers.{number_more}
use Rattle.painter.proofs.numbering.number_host.Goals as goal

pub loop-k-preserved : goal.loop-k-preserved
loop-k-preserved c =
    let row = c.args.row.now in
    let k = c.loop-k.k in
    let slot = c.index-row-k.result in
    let fits : k < length c.loop-k.numbers = omega (arith, c.loop-k-test.true, c.loop-k.auto.numbers, c.requires) in
    number_more host_format (seen_colors host_format row) c.loop-k.numbers k slot.number (color_of slot) fits c.loop-k.invariant refl
    (sym (same_color (color_of slot)) ∙ ap (λ p. converted host_format (color_of p)) c.index-row-k.is
    ∙ sym (get_or-map (λ p. converted host_format (color_of p)) row k slot black c.loop-k-test.true))
    (host_number slot)
