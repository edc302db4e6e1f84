use Rattle.std.proofs.Common.{refl}
use Rattle.pixel_format.specs.Pixel.{pixel_color}
use Rattle.pixel_format.proofs.format.PixelFormat.pixel.Goals as goal

pub returns : goal.returns
unfolding pixel_color
returns c = rw (c.value_of.ensures, c.value_of-2.ensures, c.value_of-3.ensures, c.number-number.ensures, ← c.self.view_is) refl
