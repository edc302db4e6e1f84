-- Updates of several rectangles, as they are written (RFC 6143, sections 7.6.1 and 7.7), and what is
-- read of them and painted.
use Rattle.std.specs.Prelude.{◌≡◌, ℕ, ◌+◌, ◌*◌, ◌/◌, ◌%◌, ◌<◌, ◌≤◌, ◌⊎◌, All, false, List, [], ◌∷◌, ◌++◌, length}
use Rattle.std.specs.List.{AllZip}
use Rattle.pixel_format.specs.declared.Color.{Color}
use Rattle.pixel_format.specs.Format.{Format, pixel_bytes}
use Rattle.pixel_format.specs.Pixel.{IsWithin}
use Rattle.pixel_format.specs.Canvas.{Picture}
use Rattle.terms.specs.Appending.{AreEach}
use Rattle.terms.specs.Reading.{Got}
use Rattle.terms.specs.declared.area.Area.{Area}
use Rattle.client_wire.specs.Written.{rectangle_head}
use Rattle.rect_data.specs.declared.encoding.Encoding.{Encoding}
use Rattle.rect_data.specs.declared.encoding.Encoding.TheVariants as encodings
use Rattle.rect_data.specs.Data.{number_of}
use Rattle.terms.specs.Area.{is_in, LiesWithin}
use Rattle.rect_codec.specs.declared.parts.Part.{Part}
use Rattle.rect_codec.specs.declared.parts.Part.TheVariants as parts
use Rattle.rect_codec.specs.Update.{Drawn, update_at, painted, HasColors}
use Rattle.rect_codec.specs.Written.{Shows}

-- ---- as they are written

-- a colour for each pixel of the area, all of which the format can show; a copy has none
abbrev pub CanBeWritten : Format → Part → Type 0
CanBeWritten f (parts.Copy area x y) = Unit {0}
CanBeWritten f (parts.Colors area colors asked) = (length colors.now ≡ area.h * area.w) × All (IsWithin f) colors.now

-- what stands in front of the rectangles of an update: type 0, a byte of padding, and their number
-- (section 7.6.1)
abbrev pub parts_head : ℕ → List ℕ
parts_head count = 0 ∷ 0 ∷ count / 256 ∷ count % 256 ∷ []

-- the data of a CopyRect rectangle: x and y of the area that is copied (section 7.7.2)
abbrev pub source_bytes : ℕ → ℕ → List ℕ
source_bytes x y = x / 256 ∷ x % 256 ∷ y / 256 ∷ y % 256 ∷ []

-- a rectangle in this encoding, whose data show the colours, by rows, at the pixels of its area
pub record IsRectangle (f : Format) (area : Area) (colors : List Color) (encoding : Encoding) (bytes : List ℕ) : Type 0 where
  pub body : List ℕ
  pub bytes_are : bytes ≡ rectangle_head area (number_of encoding) ++ body
  pub shows : Shows encoding f area.w area.h colors body

-- a rectangle for one who asked for an encoding: in that one or in Raw, and never longer than in Raw
pub record IsRectangleFor (f : Format) (area : Area) (colors : List Color) (asked : Encoding) (bytes : List ℕ) : Type 0 where
  pub encoding : Encoding
  pub encoding_is : (encoding ≡ asked) ⊎ (encoding ≡ encodings.Raw)
  pub is : IsRectangle f area colors encoding bytes
  pub short : length bytes ≤ 12 + area.h * area.w * pixel_bytes f

-- an update of one rectangle for one who asked for an encoding
pub record IsUpdateFor (f : Format) (area : Area) (colors : List Color) (asked : Encoding) (bytes : List ℕ) : Type 0 where
  pub rectangle : List ℕ
  pub bytes_are : bytes ≡ parts_head 1 ++ rectangle
  pub is : IsRectangleFor f area colors asked rectangle

-- a rectangle that copies an area from (x, y) on
abbrev pub IsCopy : Area → ℕ → ℕ → List ℕ → Type 0
IsCopy area x y bytes = bytes ≡ rectangle_head area (number_of encodings.CopyRect) ++ source_bytes x y

-- the rectangle of a part
abbrev pub IsPart : Format → Part → List ℕ → Type 0
IsPart f (parts.Copy area x y) bytes = IsCopy area x y bytes
IsPart f (parts.Colors area colors asked) bytes = IsRectangleFor f area colors.now asked bytes

-- an update of the rectangles of these parts, in their order
pub record AreParts (f : Format) (parts : List Part) (bytes : List ℕ) : Type 0 where
  pub body : List ℕ
  pub bytes_are : bytes ≡ parts_head (length parts) ++ body
  pub are : AreEach (IsPart f) parts body

-- ---- as they are read

-- the area lies within a screen of this size, and so does what is copied
abbrev pub PartLiesWithin : ℕ → ℕ → Part → Type 0
PartLiesWithin width height (parts.Copy area x y) =
    LiesWithin width height area × LiesWithin width height (record { x = x; y = y; w = area.w; h = area.h })
PartLiesWithin width height (parts.Colors area colors asked) = LiesWithin width height area

-- a picture that has, at the pixels of an area, what another one has at those of an area as large
-- from (x, y) on, and is that other one elsewhere
pub record HasCopied (area : Area) (source_x source_y : ℕ) (before new : Picture) : Type 0 where
  pub here : (x y : ℕ) → x < area.w → y < area.h → new (area.x + x) (area.y + y) ≡ before (source_x + x) (source_y + y)
  pub elsewhere : (x y : ℕ) → is_in area x y ≡ false → new x y ≡ before x y

-- a rectangle that copies
pub record DrawsCopy (f : Format) (area : Area) (source_x source_y : ℕ) (drawn : Drawn) : Type 0 where
  pub area_is : drawn.area ≡ area
  pub encoding_is : drawn.encoding ≡ encodings.CopyRect
  pub paints : (before : Picture) → HasCopied area source_x source_y before (painted f drawn before)

-- a rectangle that gives its area the colours, in the encoding that is asked for or in Raw
pub record DrawsPart (f : Format) (area : Area) (colors : List Color) (asked : Encoding) (drawn : Drawn) : Type 0 where
  pub area_is : drawn.area ≡ area
  pub encoding_is : (drawn.encoding ≡ asked) ⊎ (drawn.encoding ≡ encodings.Raw)
  pub paints : (before : Picture) → HasColors area colors before (painted f drawn before)

-- the rectangle paints what the part says
abbrev pub Draws : Format → Part → Drawn → Type 0
Draws f (parts.Copy area x y) drawn = DrawsCopy f area x y drawn
Draws f (parts.Colors area colors asked) drawn = DrawsPart f area colors.now asked drawn

-- the bytes are read whole, on a screen of this size, as a rectangle for each part, in their order
pub record DrawsParts (f : Format) (width height : ℕ) (parts : List Part) (bytes : List ℕ) : Type 0 where
  pub drawn : List Drawn
  pub reads : update_at f width height bytes ≡ Got drawn []
  pub each : AllZip (Draws f) parts drawn
