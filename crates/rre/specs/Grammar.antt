-- The data of an RRE rectangle (RFC 6143, section 7.7.3), read from the front of a list of bytes.
-- Each field is judged once it is whole.
use Rattle.std.specs.Prelude.{ℕ, zero, suc, ◌+◌, List, [], ◌∷◌, take, drop, Bool, ◌&&◌, nat_le}
use Rattle.pixel_format.specs.declared.Color.{Color}
use Rattle.pixel_format.specs.Format.{Format, pixel_bytes}
use Rattle.pixel_format.specs.Pixel.{pixel_color}
use Rattle.terms.specs.Reading.{Reading, Got, ◌>>=◌, field, guard}
use Rattle.terms.specs.Number.{u16_at, u32_at}
use Rattle.rre.specs.declared.data.Subrectangle.{Subrectangle}

-- what data say: the colour of the background, and the subrectangles in their order
pub record Content : Type 0 where
  pub background : Color
  pub subrectangles : List Subrectangle

-- why data are refused: a subrectangle leaves the rectangle
pub data Fault : Type 0 where
  Outside : Fault

-- A subrectangle is a pixel, and then x, y, width and height of two bytes each. Its corner counts
-- from the rectangle's corner.
unfoldable pub subrectangle_of : Format → List ℕ → Subrectangle
subrectangle_of f bytes = record {
  x = u16_at (drop (pixel_bytes f) bytes) 0;
  y = u16_at (drop (pixel_bytes f) bytes) 2;
  w = u16_at (drop (pixel_bytes f) bytes) 4;
  h = u16_at (drop (pixel_bytes f) bytes) 6;
  color = pixel_color f (take (pixel_bytes f) bytes);
}

-- how many bytes a subrectangle has
abbrev pub subrectangle_bytes : Format → ℕ
subrectangle_bytes f = pixel_bytes f + 8

-- the subrectangle lies within a rectangle of this size
unfoldable pub is_inside : ℕ → ℕ → Subrectangle → Bool
is_inside w h s = nat_le (s.x + s.w) w && nat_le (s.y + s.h) h

unfoldable pub subrectangle_at : Format → ℕ → ℕ → List ℕ → Reading Subrectangle Fault
subrectangle_at f w h bytes = field (subrectangle_bytes f) bytes >>= λ whole rest.
    guard (is_inside w h (subrectangle_of f whole)) Outside (Got (subrectangle_of f whole) rest)

-- so many subrectangles, one after the other
unfoldable pub subrectangles_at : Format → ℕ → ℕ → ℕ → List ℕ → Reading (List Subrectangle) Fault
subrectangles_at f w h zero bytes = Got [] bytes
subrectangles_at f w h (suc count) bytes = subrectangle_at f w h bytes >>= λ first rest.
    subrectangles_at f w h count rest >>= λ others after. Got (first ∷ others) after

-- how many bytes stand before the subrectangles: their number, and the background's pixel
abbrev pub head_bytes : Format → ℕ
head_bytes f = 4 + pixel_bytes f

-- the data of a rectangle of w by h
unfoldable pub data_at : Format → ℕ → ℕ → List ℕ → Reading Content Fault
data_at f w h bytes = field (head_bytes f) bytes >>= λ head rest.
    subrectangles_at f w h (u32_at head 0) rest >>= λ subrectangles after.
    Got (record { background = pixel_color f (drop 4 head); subrectangles = subrectangles }) after
