-- What an encoder makes of colours by rows: a background, and subrectangles of one colour each.
use Rattle.std.specs.Prelude.{◌≡◌, ℕ, ◌+◌, ◌*◌, ◌<◌, ◌≤◌, ◌⊎◌, List, [], ◌∷◌, ◌++◌, length, slice_index}
use Rattle.std.specs.Int.{bytes_high_first}
use Rattle.std.specs.List.{flat_map}
use Rattle.pixel_format.specs.declared.Color.{Color}
use Rattle.pixel_format.specs.Format.{Format, pixel_bytes}
use Rattle.pixel_format.specs.Pixel.{pixel_color, pixel_of}
use Rattle.terms.specs.Appending.{AreEach}
use Rattle.pixel_format.specs.Canvas.{Picture, Agree, rows_of}
use Rattle.terms.specs.Number.{u16_at}
use Rattle.rre.specs.declared.data.Subrectangle.{Subrectangle}
use Rattle.rre.specs.Frequent.{count_of, others_than}
use Rattle.rre.specs.Grammar.{Content}
use Rattle.rre.specs.Data.{LiesWithin, AreBytesOf, IsHead, IsData}
use Rattle.rre.specs.Picture.{picture_of}

-- the bytes of a subrectangle as they are written: the pixel of its colour, and x, y, width and height
abbrev pub area_bytes : Subrectangle → List ℕ
area_bytes s = bytes_high_first 2 s.x ++ (bytes_high_first 2 s.y ++ (bytes_high_first 2 s.w ++ bytes_high_first 2 s.h))

abbrev pub part_bytes : Format → Subrectangle → List ℕ
part_bytes f s = pixel_of f s.color ++ area_bytes s

-- Data as they are written: how many subrectangles follow, the pixel of the background, and the
-- subrectangles. In each pixel the bits that belong to no channel are 0.
abbrev pub data_bytes : Format → Content → List ℕ
data_bytes f content = bytes_high_first 4 (length content.subrectangles)
    ++ (pixel_of f content.background ++ flat_map (part_bytes f) content.subrectangles)

-- bytes are data of a rectangle whose picture is the colours, at every pixel
pub record Shows (f : Format) (w h : ℕ) (colors : List Color) (bytes : List ℕ) : Type 0 where
  pub content : Content
  pub is : IsData f w h bytes content
  pub bytes_are : bytes ≡ data_bytes f content
  pub picture : Agree w h (picture_of content) (rows_of colors w)

-- how many bytes data of so many subrectangles have
abbrev pub data_size : Format → ℕ → ℕ
data_size f n = 4 + pixel_bytes f + n * (pixel_bytes f + 8)

-- the colour of more than half of the pixels, if one colour has so many
abbrev pub IsMajority : List Color → Color → Type 0
IsMajority colors background = (color : Color) → length colors < 2 * count_of color colors → color ≡ background

-- Data over such a background, with one subrectangle for each pixel of another colour, have so many
-- bytes, or more.
pub record IsLong (f : Format) (colors : List Color) (limit : ℕ) : Type 0 where
  pub background : Color
  pub majority : IsMajority colors background
  pub long : limit ≤ data_size f (others_than background colors)

-- ---- how the encoder goes on

-- a subrectangle all of whose pixels have its colour
pub record IsUniform (colors : List Color) (w h : ℕ) (s : Subrectangle) : Type 0 where
  pub within : LiesWithin w h s
  pub across : 0 < s.w
  pub down : 0 < s.h
  pub same : (a b : ℕ) → a < s.w → b < s.h → rows_of colors w (s.x + a) (s.y + b) ≡ s.color

abbrev pub AreUniform : List Color → ℕ → ℕ → List Subrectangle → Type 0
AreUniform colors w h [] = Unit {0}
AreUniform colors w h (s ∷ ss) = IsUniform colors w h s × AreUniform colors w h ss

-- the pixel comes before another one, by rows
abbrev pub StandsBefore : ℕ → ℕ → ℕ → ℕ → Type 0
StandsBefore c r column row = (r < row) ⊎ ((r ≡ row) × (c < column))

abbrev pub part_picture : Color → List Subrectangle → Picture
part_picture background parts = picture_of (record { background = background; subrectangles = parts })

-- The pixels before (column, row) have their colours; in each column also those from there to its
-- reach; and no pixel has a wrong colour but the background's.
pub record Reaches (colors : List Color) (w h : ℕ) (background : Color) (parts : List Subrectangle) (reach : List ℕ) (column row : ℕ) : Type 0 where
  pub uniform : AreUniform colors w h parts
  pub few : length parts ≤ row * w + column
  pub sound : (c r : ℕ) → c < w → r < h
      → (part_picture background parts c r ≡ rows_of colors w c r) ⊎ (part_picture background parts c r ≡ background)
  pub before : (c r : ℕ) → c < w → r < h → StandsBefore c r column row → part_picture background parts c r ≡ rows_of colors w c r
  pub below : (c r : ℕ) → c < w → r < h → row ≤ r → r < slice_index reach c → part_picture background parts c r ≡ rows_of colors w c r

-- ---- what is appended

-- the x, y, width and height of a subrectangle
pub record IsAreaOf (s : Subrectangle) (bytes : List ℕ) : Type 0 where
  pub size : length bytes ≡ 8
  pub x_is : s.x ≡ u16_at bytes 0
  pub y_is : s.y ≡ u16_at bytes 2
  pub w_is : s.w ≡ u16_at bytes 4
  pub h_is : s.h ≡ u16_at bytes 6

-- subrectangles one after the other
abbrev pub AreBytesOfAll : Format → List Subrectangle → List ℕ → Type 0
AreBytesOfAll f = AreEach (AreBytesOf f)

-- a head, and subrectangles wherever they lie
pub record IsWritten (f : Format) (background : Color) (parts : List Subrectangle) (bytes : List ℕ) : Type 0 where
  pub head : List ℕ
  pub pixel : List ℕ
  pub body : List ℕ
  pub bytes_are : bytes ≡ head ++ body
  pub head_is : IsHead f head (length parts) pixel
  pub background_is : background ≡ pixel_color f pixel
  pub body_is : AreBytesOfAll f parts body

-- data over such a background of no more subrectangles than there are pixels of another colour
pub record HasFew (f : Format) (colors : List Color) (old new : ℕ) : Type 0 where
  pub background : Color
  pub majority : IsMajority colors background
  pub count : ℕ
  pub few : count ≤ others_than background colors
  pub length_is : new ≡ old + data_size f count

-- more pixels than so many have another colour than such a background
pub record HasMany (colors : List Color) (most : ℕ) : Type 0 where
  pub background : Color
  pub majority : IsMajority colors background
  pub many : most < others_than background colors
