use Rattle.std.proofs.Common.{◌∙◌, ap, sym, subst, refl}
use Rattle.pixel_format.specs.Format.{Format, host_format}
use Rattle.pixel_format.specs.Number.{IsNumber}
use Rattle.pixel_format.specs.Pixel.{converted}
use Rattle.painter.specs.Pixels.{color_of}
use Rattle.painter.proofs.SentRows.{row_more, same_color, host_number}
use Rattle.painter.proofs.sending.put_host.Goals as goal

pub write_number-requires-clause-number : goal.write_number-requires-clause-number
write_number-requires-clause-number c =
    subst (λ (f : Format). IsNumber f c.index-row-k.result.number) (sym c.host-host.ensures) (host_number c.index-row-k.result)

pub loop-k-preserved : goal.loop-k-preserved
loop-k-preserved c =
    let slot = c.index-row-k.result in
    let put = rw c.host-host.ensures at c.write_number.ensures.bytes in
    let back = rw c.host-host.ensures at c.write_number.ensures.color in
    row_more host_format c.args.row.now c.loop-k.bytes c.write_number.new.bytes c.loop-k.k 4 slot (color_of slot) refl (c.loop-k.auto.bytes ∙ c.requires)
    c.loop-k-test.true c.write_number.auto.bytes c.loop-k.invariant put back
    (sym (same_color (color_of slot)) ∙ ap (λ p. converted host_format (color_of p)) c.index-row-k.is)
