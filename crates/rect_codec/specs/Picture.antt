-- What the data of a rectangle show (RFC 6143, section 7.7), in any pixel format.
use Rattle.std.specs.Prelude.{ℕ, ◌+◌, ◌-◌, ◌*◌, List, take, drop, if◌then◌else◌}
use Rattle.pixel_format.specs.Format.{Format, pixel_bytes}
use Rattle.terms.specs.Reading.{Reading, Got, More, Bad}
use Rattle.pixel_format.specs.Canvas.{Picture, pixel_rows}
use Rattle.terms.specs.Area.{is_in}
use Rattle.terms.specs.declared.area.Area.{Area}
use Rattle.rre.specs.Grammar as rre
use Rattle.rre.specs.Picture as rre_picture
use Rattle.hextile.specs.Grammar as hextile
use Rattle.hextile.specs.Picture as hextile_picture
use Rattle.rect_data.specs.declared.encoding.Encoding.{Encoding}
use Rattle.rect_data.specs.declared.encoding.Encoding.TheVariants as encodings
use Rattle.rect_data.specs.Grammar.{source_of}

-- the pixel of this number, of pixels one after the other
abbrev pub pixel_at : Format → List ℕ → ℕ → List ℕ
pixel_at f bytes n = take (pixel_bytes f) (drop (n * pixel_bytes f) bytes)

-- The picture of a Raw rectangle: the pixels stand by rows, from the top and the left (section
-- 7.7.1).
unfoldable pub raw_picture : Format → Area → List ℕ → Picture
raw_picture f area bytes x y = pixel_rows f area.w bytes (x - area.x) (y - area.y)

-- The picture of a CopyRect rectangle: what stood in the area that is copied, in the picture that
-- was there before (section 7.7.2).
unfoldable pub copied_picture : Area → Area → Picture → Picture
copied_picture source area before x y = before (source.x + (x - area.x)) (source.y + (y - area.y))

-- The picture of what data say, of whose rectangle this is the corner; black if they say nothing.
abbrev pub shown_at : {A E : Type 0} → Area → (A → Picture) → Reading A E → Picture
shown_at area picture (Got content rest) x y = picture content (x - area.x) (y - area.y)
shown_at area picture More x y = record { r = 0; g = 0; b = 0 }
shown_at area picture (Bad fault) x y = record { r = 0; g = 0; b = 0 }

-- the pictures of RRE and of Hextile data (sections 7.7.3 and 7.7.4)
unfoldable pub rre_shown : Format → Area → List ℕ → Picture
rre_shown f area bytes = shown_at area rre_picture.picture_of (rre.data_at f area.w area.h bytes)

unfoldable pub hextile_shown : Format → Area → List ℕ → Picture
hextile_shown f area bytes = shown_at area (hextile_picture.picture_of area.w) (hextile.data_at f area.w area.h bytes)

-- the picture of a rectangle of some encoding over the picture that was there before
abbrev pub picture_of : Format → Encoding → Area → List ℕ → Picture → Picture
picture_of f encodings.Raw area bytes before = raw_picture f area bytes
picture_of f encodings.CopyRect area bytes before = copied_picture (source_of area bytes) area before
picture_of f encodings.Rre area bytes before = rre_shown f area bytes
picture_of f encodings.Hextile area bytes before = hextile_shown f area bytes

-- Painting a rectangle changes the pixels of its area alone.
unfoldable pub painted_data : Format → Encoding → Area → List ℕ → Picture → Picture
painted_data f encoding area bytes before x y =
    if is_in area x y then picture_of f encoding area bytes before x y else before x y
