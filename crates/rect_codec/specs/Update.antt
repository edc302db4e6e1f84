-- An update as one reads and paints it who takes a pixel format (RFC 6143, sections 7.6.1 and 7.7).
use Rattle.std.specs.Prelude.{◌≡◌, ℕ, zero, suc, ◌+◌, ◌-◌, ◌<◌, false, List, [], ◌∷◌, length, take, nat_eq, slice_index, Option, Some, None}
use Rattle.pixel_format.specs.declared.Color.{Color}
use Rattle.pixel_format.specs.Format.{Format}
use Rattle.terms.specs.Reading.{Reading, Got, Bad, ◌>>=◌, field, guard}
use Rattle.pixel_format.specs.Canvas.{Picture, rows_of}
use Rattle.terms.specs.Number.{u16_at, u32_at}
use Rattle.terms.specs.declared.area.Area.{Area}
use Rattle.terms.specs.declared.wire_fault.WireFault.{WireFault}
use Rattle.terms.specs.declared.wire_fault.WireFault.TheVariants as faults
use Rattle.terms.specs.Number.{signed}
use Rattle.rect_data.specs.declared.encoding.Encoding.{Encoding}
use Rattle.rect_data.specs.Grammar.{encoding_of, is_inside, data_at}
use Rattle.terms.specs.Area.{area_at, is_in}
use Rattle.rect_codec.specs.Picture.{painted_data}

-- ---- reading

-- a rectangle of an update: its area, its encoding, and its data
pub record Drawn : Type 0 where
  pub area : Area
  pub encoding : Encoding
  pub content : List ℕ

-- the area that the header of a rectangle names: x, y, width and height (section 7.6.1)
abbrev pub area_of : List ℕ → Area
area_of f = area_at f 0

-- the rectangle whose data the bytes have in front of the rest
abbrev pub drawn_of : Area → Encoding → List ℕ → List ℕ → Drawn
drawn_of area encoding bytes rest = record { area = area; encoding = encoding; content = take (length bytes - length rest) bytes }

-- the data of a rectangle, if the number is that of an encoding
abbrev pub encoded_at : Format → ℕ → ℕ → ℕ → Option Encoding → Area → List ℕ → Reading Drawn WireFault
encoded_at f width height number (Some encoding) area bytes =
    data_at f width height encoding area bytes >>= λ content rest. Got (drawn_of area encoding bytes rest) rest
encoded_at f width height number None area bytes = Bad (faults.Encoding (signed number))

-- a rectangle: a header of 12 bytes, and the data
unfoldable pub rectangle_at : Format → ℕ → ℕ → List ℕ → Reading Drawn WireFault
rectangle_at f width height bytes = field 12 bytes >>= λ head rest.
    guard (is_inside width height (area_of head)) faults.OutsideScreen
    (encoded_at f width height (u32_at head 8) (encoding_of (u32_at head 8)) (area_of head) rest)

-- so many rectangles, one after the other
unfoldable pub rectangles_at : Format → ℕ → ℕ → ℕ → List ℕ → Reading (List Drawn) WireFault
rectangles_at f width height zero bytes = Got [] bytes
rectangles_at f width height (suc count) bytes = rectangle_at f width height bytes >>= λ first rest.
    rectangles_at f width height count rest >>= λ others after. Got (first ∷ others) after

-- FramebufferUpdate: type 0, a byte of padding, the number of rectangles, and the rectangles
unfoldable pub update_at : Format → ℕ → ℕ → List ℕ → Reading (List Drawn) WireFault
update_at f width height bytes = field 4 bytes >>= λ head rest.
    guard (nat_eq (slice_index head 0) 0) faults.UnknownType (rectangles_at f width height (u16_at head 2) rest)

-- ---- painting

abbrev pub painted : Format → Drawn → Picture → Picture
painted f d before = painted_data f d.encoding d.area d.content before

-- in their order, each over what the ones before it left
abbrev pub all_painted : Format → List Drawn → Picture → Picture
all_painted f [] before = before
all_painted f (d ∷ ds) before = all_painted f ds (painted f d before)

-- a picture with these colours, by rows, at the pixels of an area, and as it was elsewhere
pub record HasColors (area : Area) (colors : List Color) (before new : Picture) : Type 0 where
  pub here : (x y : ℕ) → x < area.w → y < area.h → new (area.x + x) (area.y + y) ≡ rows_of colors area.w x y
  pub elsewhere : (x y : ℕ) → is_in area x y ≡ false → new x y ≡ before x y

-- The bytes are read whole, on a screen of this size, as one rectangle of the area. Painted over any
-- picture, it gives the area the colours.
pub record DrawsColors (f : Format) (width height : ℕ) (area : Area) (colors : List Color) (bytes : List ℕ) : Type 0 where
  pub drawn : Drawn
  pub area_is : drawn.area ≡ area
  pub reads : update_at f width height bytes ≡ Got (drawn ∷ []) []
  pub paints : (before : Picture) → HasColors area colors before (all_painted f (drawn ∷ []) before)
