-- The data of rectangles, as they are written (RFC 6143, section 7.7). The bits of a pixel that
-- belong to no channel are 0.
use Rattle.std.specs.Prelude.{◌≡◌, ℕ, ◌*◌, ◌<◌, List, length}
use Rattle.pixel_format.specs.declared.Color.{Color}
use Rattle.pixel_format.specs.Format.{Format, pixel_bytes}
use Rattle.pixel_format.specs.Pixel.{pixel_color, pixel_of}
use Rattle.pixel_format.specs.Canvas.{Agree, nth, rows_of, pixel_rows}
use Rattle.rre.specs.Encoded as rre
use Rattle.hextile.specs.Encoded as hextile
use Rattle.rect_data.specs.declared.encoding.Encoding.{Encoding}
use Rattle.rect_data.specs.declared.encoding.Encoding.TheVariants as encodings
use Rattle.rect_codec.specs.Picture.{pixel_at}

-- the pixel of a colour, as it is written
pub record IsPixelOf (f : Format) (color : Color) (bytes : List ℕ) : Type 0 where
  pub bytes_are : bytes ≡ pixel_of f color
  pub color_is : pixel_color f bytes ≡ color

-- the pixels of these colours
pub record ArePixels (f : Format) (colors : List Color) (bytes : List ℕ) : Type 0 where
  pub size : length bytes ≡ length colors * pixel_bytes f
  pub pixels_are : (n : ℕ) → n < length colors → IsPixelOf f (nth colors n) (pixel_at f bytes n)

-- Raw data: a pixel value for each pixel, by rows from the top and each from the left (section
-- 7.7.1)
pub record ShowsRaw (f : Format) (w h : ℕ) (colors : List Color) (bytes : List ℕ) : Type 0 where
  pub size : length bytes ≡ h * w * pixel_bytes f
  pub are : ArePixels f colors bytes
  pub picture : Agree w h (pixel_rows f w bytes) (rows_of colors w)

-- the data of a rectangle of w by h that show these colours, by rows (sections 7.7.1, 7.7.3 and
-- 7.7.4); those of CopyRect show none, but name pixels of a screen
abbrev pub Shows : Encoding → Format → ℕ → ℕ → List Color → List ℕ → Type 0
Shows encodings.Raw f w h colors bytes = ShowsRaw f w h colors bytes
Shows encodings.CopyRect f w h colors bytes = ⊥
Shows encodings.Rre f w h colors bytes = rre.Shows f w h colors bytes
Shows encodings.Hextile f w h colors bytes = hextile.Shows f w h colors bytes
