use Rattle.std.proofs.Common.{◌∙◌, ap, sym}
use Rattle.pixel_format.specs.Pixel.{number_bytes, pixel_of, pixel_color}
use Rattle.pixel_format.specs.Number.{number_color}
use Rattle.pixel_format.proofs.format.PixelFormat.write_number.Goals as goal

pub returns-clause-bytes : goal.returns-clause-bytes
unfolding pixel_of
returns-clause-bytes c = c.put_number.ensures.bytes ∙ ap (number_bytes c.args.self.now) (sym c.requires.number.is)

pub returns-clause-color : goal.returns-clause-color
unfolding pixel_color
returns-clause-color c = ap (number_color c.args.self.now) c.put_number.ensures.number
