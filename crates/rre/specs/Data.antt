-- What the data of an RRE rectangle are (RFC 6143, section 7.7.3): a relation between a pixel
-- format, the rectangle's size, bytes, and the background and subrectangles that they say.
use Rattle.std.specs.Prelude.{◌≡◌, ℕ, ◌<◌, List, [], ◌∷◌, ◌++◌, length}
use Rattle.pixel_format.specs.Format.{Format, pixel_bytes}
use Rattle.pixel_format.specs.Pixel.{pixel_color}
use Rattle.terms.specs.Area as areas
use Rattle.terms.specs.declared.area.Area.{Area}
use Rattle.terms.specs.Number.{u16_at, u32_at}
use Rattle.rre.specs.declared.data.Subrectangle.{Subrectangle}
use Rattle.rre.specs.Grammar.{Content}

-- the area of a subrectangle
abbrev pub area_of : Subrectangle → Area
area_of s = record { x = s.x; y = s.y; w = s.w; h = s.h }

-- the subrectangle lies within a rectangle of w by h
abbrev pub LiesWithin : ℕ → ℕ → Subrectangle → Type 0
LiesWithin w h s = areas.LiesWithin w h (area_of s)

-- bytes of a subrectangle: a pixel, and then x, y, width and height of two bytes each
pub record AreBytesOf (f : Format) (s : Subrectangle) (bytes : List ℕ) : Type 0 where
  pub pixel : List ℕ
  pub area : List ℕ
  pub bytes_are : bytes ≡ pixel ++ area
  pub pixel_length : length pixel ≡ pixel_bytes f
  pub area_length : length area ≡ 8
  pub color_is : s.color ≡ pixel_color f pixel
  pub x_is : s.x ≡ u16_at area 0
  pub y_is : s.y ≡ u16_at area 2
  pub w_is : s.w ≡ u16_at area 4
  pub h_is : s.h ≡ u16_at area 6

-- subrectangles one after the other, all within the rectangle
abbrev pub AreSubrectangles : Format → ℕ → ℕ → List Subrectangle → List ℕ → Type 0
AreSubrectangles f w h [] bytes = bytes ≡ []
AreSubrectangles f w h (s ∷ others) bytes =
    (first : List ℕ) × (rest : List ℕ) × (bytes ≡ first ++ rest) × AreBytesOf f s first × LiesWithin w h s × AreSubrectangles f w h others rest

-- how many subrectangles follow, in four bytes, and the background's pixel
pub record IsHead (f : Format) (head : List ℕ) (count : ℕ) (pixel : List ℕ) : Type 0 where
  pub number : List ℕ
  pub head_is : head ≡ number ++ pixel
  pub number_length : length number ≡ 4
  pub count_is : count ≡ u32_at number 0
  pub pixel_length : length pixel ≡ pixel_bytes f

pub record IsData (f : Format) (w h : ℕ) (bytes : List ℕ) (content : Content) : Type 0 where
  pub head : List ℕ
  pub pixel : List ℕ
  pub body : List ℕ
  pub bytes_are : bytes ≡ head ++ body
  pub head_is : IsHead f head (length content.subrectangles) pixel
  pub background_is : content.background ≡ pixel_color f pixel
  pub body_is : AreSubrectangles f w h content.subrectangles body

-- the bytes are the data of a rectangle of w by h
abbrev pub AreData : Format → ℕ → ℕ → List ℕ → Type 0
AreData f w h bytes = (content : Content) × IsData f w h bytes content

-- The bytes begin with a subrectangle that leaves the rectangle, after the head and the
-- subrectangles before it.
pub record IsRefused (f : Format) (w h : ℕ) (bytes : List ℕ) : Type 0 where
  pub head : List ℕ
  pub pixel : List ℕ
  pub earlier : List Subrectangle
  pub body : List ℕ
  pub field : List ℕ
  pub more : List ℕ
  pub count : ℕ
  pub outside : Subrectangle
  pub bytes_are : bytes ≡ head ++ (body ++ (field ++ more))
  pub head_is : IsHead f head count pixel
  pub body_is : AreSubrectangles f w h earlier body
  pub one_of_them : length earlier < count
  pub field_is : AreBytesOf f outside field
  pub leaves : LiesWithin w h outside → ⊥
