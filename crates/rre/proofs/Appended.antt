-- What is appended one after the other.
use Rattle.std.proofs.Common.{◌≡◌, ℕ, List, ◌++◌, length, refl, sym}
use Rattle.pixel_format.specs.declared.Color.{Color}
use Rattle.pixel_format.specs.Format.{Format}
use Rattle.pixel_format.specs.Pixel.{IsPixel}
use Rattle.terms.specs.Number.{u32_at}
use Rattle.terms.specs.Appending.{Appends}
use Rattle.terms.proofs.Appends.{joined}
use Rattle.rre.specs.declared.data.Subrectangle.{Subrectangle}
use Rattle.rre.specs.Data.{AreBytesOf}
use Rattle.rre.specs.Encoded.{IsAreaOf, AreBytesOfAll, IsWritten}

-- a pixel and an area
pub part_appended : (f : Format) (s : Subrectangle) (old between new area : List ℕ) → Appends (IsPixel f s.color) old between → IsAreaOf s area → new ≡ between ++ area
    → Appends (AreBytesOf f s) old new
part_appended f s old between new area pixel is added = record {
  bytes = pixel.bytes ++ area;
  is = joined old pixel.bytes area between new pixel.is added;
  are = record {
    pixel = pixel.bytes;
    area = area;
    bytes_are = refl;
    pixel_length = pixel.are.size;
    area_length = is.size;
    color_is = pixel.are.color_is;
    x_is = is.x_is;
    y_is = is.y_is;
    w_is = is.w_is;
    h_is = is.h_is;
  };
}

-- a head and all subrectangles
pub data_appended : (f : Format) (background : Color) (parts : List Subrectangle) (number old first between new : List ℕ) → length number ≡ 4 → u32_at number 0 ≡ length parts
    → first ≡ old ++ number → Appends (IsPixel f background) first between → Appends (AreBytesOfAll f parts) between new
    → Appends (IsWritten f background parts) old new
data_appended f background parts number old first between new size count added pixel body = record {
  bytes = (number ++ pixel.bytes) ++ body.bytes;
  is = joined old (number ++ pixel.bytes) body.bytes between new (joined old number pixel.bytes first between added pixel.is) body.is;
  are = record {
    head = number ++ pixel.bytes;
    pixel = pixel.bytes;
    body = body.bytes;
    bytes_are = refl;
    head_is = record { number = number; head_is = refl; number_length = size; count_is = sym count; pixel_length = pixel.are.size };
    background_is = pixel.are.color_is;
    body_is = body.are;
  };
}
