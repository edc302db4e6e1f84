-- The data of a Hextile rectangle (RFC 6143, section 7.7.4), read from the front of a list of
-- bytes. Each field is judged once it is whole.
use Rattle.std.specs.Prelude.{ℕ, zero, suc, ◌+◌, ◌-◌, ◌*◌, ◌/◌, ◌%◌, List, [], ◌∷◌, take, drop, slice_index, Option, Some, None, is_some, Bool, false, not, ◌&&◌, ◌||◌, nat_eq, nat_le, nat_lt, bit_and, if◌then◌else◌}
use Rattle.pixel_format.specs.declared.Color.{Color}
use Rattle.pixel_format.specs.Format.{Format, pixel_bytes}
use Rattle.pixel_format.specs.Pixel.{pixel_color}
use Rattle.terms.specs.Reading.{Reading, Got, ◌>>=◌, field, guard}
use Rattle.hextile.specs.declared.fields.Subrectangle.{Subrectangle}
use Rattle.hextile.specs.declared.fields.Mask.{Mask}
use Rattle.hextile.specs.declared.fields.Named.{Named}
use Rattle.hextile.specs.Tiles.{tile_count, tile_width, tile_height}

-- What a tile says: the colour of each of its pixels, by rows; or the background and the foreground
-- that it names, and subrectangles in their order.
pub data Tile : Type 0 where
  Raw : List Color → Tile
  Parts : Option Color → Option Color → List Subrectangle → Tile

-- data are refused at a mask that may not stand there, and at a subrectangle that leaves its tile
pub data Fault : Type 0 where
  Refused : Fault

-- ---- masks

-- the bit of this value is set
abbrev pub bit : ℕ → ℕ → Bool
bit byte value = not (nat_eq (bit_and byte value) 0)

unfoldable pub mask_of : ℕ → Mask
mask_of byte = record {
  raw = bit byte 1;
  background = bit byte 2;
  foreground = bit byte 4;
  subrectangles = bit byte 8;
  colored = bit byte 16;
}

-- The mask may follow tiles that named these colours. That of a raw tile always may.
unfoldable pub is_allowed : Named → ℕ → Mask → Bool
is_allowed named byte m = m.raw || (nat_lt byte 32 && not (m.foreground && m.colored) && (named.background || m.background)
    && (not m.subrectangles || m.colored || named.foreground || m.foreground))

-- ---- fields

-- how many bytes a pixel takes that is there or not
abbrev pub pixel_if : Format → Bool → ℕ
pixel_if f there = if there then pixel_bytes f else 0

-- the colour of a pixel that begins the bytes, if it is there
abbrev pub color_if : Format → Bool → List ℕ → Option Color
color_if f there bytes = if there then Some (pixel_color f (take (pixel_bytes f) bytes)) else None

-- the colours of so many pixels
unfoldable pub colors_of : Format → ℕ → List ℕ → List Color
colors_of f zero bytes = []
colors_of f (suc count) bytes = pixel_color f (take (pixel_bytes f) bytes) ∷ colors_of f count (drop (pixel_bytes f) bytes)

-- After the mask of a tile that isn't raw come the background's pixel, the foreground's, and the
-- number of subrectangles, each if the mask says so.
abbrev pub head_bytes : Format → Mask → ℕ
head_bytes f m = pixel_if f m.background + pixel_if f m.foreground + (if m.subrectangles then 1 else 0)

unfoldable pub background_in : Format → Mask → List ℕ → Option Color
background_in f m head = color_if f m.background head

unfoldable pub foreground_in : Format → Mask → List ℕ → Option Color
foreground_in f m head = color_if f m.foreground (drop (pixel_if f m.background) head)

unfoldable pub count_in : Format → Mask → List ℕ → ℕ
count_in f m head = if m.subrectangles then slice_index head (pixel_if f m.background + pixel_if f m.foreground) else 0

-- A subrectangle is a pixel, if it has a colour of its own, and then two bytes: x and y, and width
-- and height less one. Its corner counts from the tile's corner.
abbrev pub subrectangle_bytes : Format → Bool → ℕ
subrectangle_bytes f colored = pixel_if f colored + 2

unfoldable pub subrectangle_of : Format → Bool → List ℕ → Subrectangle
subrectangle_of f colored bytes = record {
  x = slice_index (drop (pixel_if f colored) bytes) 0 / 16;
  y = slice_index (drop (pixel_if f colored) bytes) 0 % 16;
  w = slice_index (drop (pixel_if f colored) bytes) 1 / 16 + 1;
  h = slice_index (drop (pixel_if f colored) bytes) 1 % 16 + 1;
  color = color_if f colored bytes;
}

-- the subrectangle lies within a tile of this size
unfoldable pub is_inside : ℕ → ℕ → Subrectangle → Bool
is_inside w h s = nat_le (s.x + s.w) w && nat_le (s.y + s.h) h

-- ---- tiles of w by h

unfoldable pub subrectangle_at : Format → Bool → ℕ → ℕ → List ℕ → Reading Subrectangle Fault
subrectangle_at f colored w h bytes = field (subrectangle_bytes f colored) bytes >>= λ whole rest.
    guard (is_inside w h (subrectangle_of f colored whole)) Refused (Got (subrectangle_of f colored whole) rest)

-- so many subrectangles, one after the other
unfoldable pub subrectangles_at : Format → Bool → ℕ → ℕ → ℕ → List ℕ → Reading (List Subrectangle) Fault
subrectangles_at f colored w h zero bytes = Got [] bytes
subrectangles_at f colored w h (suc count) bytes = subrectangle_at f colored w h bytes >>= λ first rest.
    subrectangles_at f colored w h count rest >>= λ others after. Got (first ∷ others) after

unfoldable pub raw_at : Format → ℕ → ℕ → List ℕ → Reading Tile Fault
raw_at f w h bytes = field (w * h * pixel_bytes f) bytes >>= λ pixels rest. Got (Raw (colors_of f (w * h) pixels)) rest

unfoldable pub parts_at : Format → Mask → ℕ → ℕ → List ℕ → Reading Tile Fault
parts_at f m w h bytes = field (head_bytes f m) bytes >>= λ head rest.
    subrectangles_at f m.colored w h (count_in f m head) rest >>= λ parts after.
    Got (Parts (background_in f m head) (foreground_in f m head) parts) after

-- a tile after its mask
unfoldable pub body_at : Format → Mask → ℕ → ℕ → List ℕ → Reading Tile Fault
body_at f m w h bytes = if m.raw then raw_at f w h bytes else parts_at f m w h bytes

-- a tile after tiles that named these colours
unfoldable pub tile_at : Format → Named → ℕ → ℕ → List ℕ → Reading Tile Fault
tile_at f named w h bytes = field 1 bytes >>= λ mask rest.
    guard (is_allowed named (slice_index mask 0) (mask_of (slice_index mask 0))) Refused
    (body_at f (mask_of (slice_index mask 0)) w h rest)

-- ---- rectangles of w by h

abbrev pub none_named : Named
none_named = record { background = false; foreground = false }

-- which colours are named once the tile is read
abbrev pub named_with : Named → Tile → Named
named_with named (Raw colors) = named
named_with named (Parts background foreground parts) = record {
  background = named.background || is_some background;
  foreground = named.foreground || is_some foreground;
}

-- so many tiles, the last ones of the rectangle
unfoldable pub tiles_at : Format → ℕ → ℕ → Named → ℕ → List ℕ → Reading (List Tile) Fault
tiles_at f w h named zero bytes = Got [] bytes
tiles_at f w h named (suc more) bytes =
    tile_at f named (tile_width w (tile_count w h - suc more)) (tile_height w h (tile_count w h - suc more)) bytes >>= λ tile rest.
    tiles_at f w h (named_with named tile) more rest >>= λ others after. Got (tile ∷ others) after

-- the data of a rectangle of w by h
unfoldable pub data_at : Format → ℕ → ℕ → List ℕ → Reading (List Tile) Fault
data_at f w h bytes = tiles_at f w h none_named (tile_count w h) bytes
