use Rattle.pixel_format.proofs.Eights.{eight}
use Rattle.pixel_format.specs.Pixel.{converted_channel}
use Rattle.pixel_format.proofs.format.PixelFormat.convert_eight.Goals as goal

pub returns : goal.returns
returns c =
    let f = c.self.inside in
    rw (
      c.color.ensures,
      c.color-2.ensures,
      c.color-3.ensures,
      c.color-4.ensures,
      c.color-5.ensures,
      c.color-6.ensures,
      c.color-7.ensures,
      c.color-8.ensures,
      c.proportions.ensures,
      c.proportions-2.ensures,
      c.proportions-3.ensures,
      ← c.self.view_is,
    )
    (eight (λ color. record { r = converted_channel f.red.max color.r; g = converted_channel f.green.max color.g; b = converted_channel f.blue.max color.b })
    _ c.args.c.now c.requires.size)
