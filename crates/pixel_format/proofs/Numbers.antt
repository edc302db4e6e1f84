-- Numbers of pixels, and their colours.
use Rattle.std.proofs.Common.{◌≡◌, ℕ, zero, suc, List, [], ◌∷◌, get_or, map, refl}
use Rattle.std.proofs.Math.Nat.{zero-div, zero-mod}
use Rattle.pixel_format.specs.Format.{Channel, Format}
use Rattle.pixel_format.specs.Pixel.{channel_value}
use Rattle.pixel_format.specs.Number.{number_color}
use Rattle.pixel_format.specs.Canvas.{nth}

-- the number 0 has 0 in each channel
pub no_value : (c : Channel) → channel_value c 0 ≡ 0
no_value c = rw (zero-div, zero-mod) refl

-- the colour of a pixel is that of its number; after the last one comes black
pub color_nth : (f : Format) (numbers : List ℕ) (k : ℕ) → nth (map (number_color f) numbers) k ≡ number_color f (get_or numbers k 0)
color_nth f [] k = rw (no_value f.red, no_value f.green, no_value f.blue) refl
color_nth f (n ∷ numbers) zero = refl
color_nth f (n ∷ numbers) (suc k) = color_nth f numbers k
