-- What the data of a rectangle are (RFC 6143, section 7.7): a relation between the pixel format,
-- the size of the screen, an encoding, the rectangle's area, and bytes.
use Rattle.std.specs.Prelude.{◌≡◌, ℕ, ◌*◌, List, length}
use Rattle.pixel_format.specs.Format.{Format, pixel_bytes}
use Rattle.terms.specs.declared.area.Area.{Area}
use Rattle.terms.specs.Area.{LiesWithin}
use Rattle.rre.specs.Data as rre
use Rattle.hextile.specs.Data as hextile
use Rattle.rect_data.specs.declared.encoding.Encoding.{Encoding}
use Rattle.rect_data.specs.declared.encoding.Encoding.TheVariants as encodings
use Rattle.rect_data.specs.Grammar.{source_of}

-- the number of an encoding (section 7.7)
abbrev pub number_of : Encoding → ℕ
number_of encodings.Raw = 0
number_of encodings.CopyRect = 1
number_of encodings.Rre = 2
number_of encodings.Hextile = 5

-- x and y, of two bytes each, of an area as large as the rectangle and within the screen (section
-- 7.7.2)
pub record IsSource (width height : ℕ) (area : Area) (bytes : List ℕ) : Type 0 where
  pub size : length bytes ≡ 4
  pub within : LiesWithin width height (source_of area bytes)

abbrev pub AreData : Format → ℕ → ℕ → Encoding → Area → List ℕ → Type 0
AreData f width height encodings.Raw area bytes = length bytes ≡ pixel_bytes f * (area.w * area.h)
AreData f width height encodings.CopyRect area bytes = IsSource width height area bytes
AreData f width height encodings.Rre area bytes = rre.AreData f area.w area.h bytes
AreData f width height encodings.Hextile area bytes = hextile.AreData f area.w area.h bytes
