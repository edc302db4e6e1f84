-- What an encoder makes of colours by rows: tiles of parts of one colour each over a background, or
-- of pixels.
use Rattle.std.specs.Prelude.{◌≡◌, ℕ, ◌+◌, ◌-◌, ◌*◌, ◌/◌, ◌%◌, ◌<◌, ◌≤◌, List, [], ◌∷◌, ◌++◌, length, reverse, map, All, Option, Some, None, is_some, Bool, true, false, if◌then◌else◌}
use Rattle.std.specs.List.{flat_map}
use Rattle.pixel_format.specs.declared.Color.{Color}
use Rattle.pixel_format.specs.Format.{Format}
use Rattle.pixel_format.specs.Pixel.{IsWithin, pixel_of}
use Rattle.pixel_format.specs.Written.{flag}
use Rattle.pixel_format.specs.Canvas.{Picture, covers, Agree, nth, rows_of}
use Rattle.hextile.specs.declared.fields.Subrectangle.{Subrectangle}
use Rattle.hextile.specs.declared.cover.Part.{Part}
use Rattle.hextile.specs.declared.fields.Mask.{Mask}
use Rattle.hextile.specs.declared.writing.Known.{Known}
use Rattle.hextile.specs.Grammar.{Tile, Raw, Parts, mask_of}
use Rattle.hextile.specs.Data.{background_of, foreground_of, AreSubrectangles, IsHead, IsTile, IsData}
use Rattle.hextile.specs.Picture.{latest_picture, picture_of}

-- ---- bytes as they are written: in each pixel the bits that belong to no channel are 0

-- the pixel of a colour that is named, or nothing
abbrev pub pixel_if : Format → Option Color → List ℕ
pixel_if f None = []
pixel_if f (Some color) = pixel_of f color

-- a subrectangle: its pixel, if it has one; x and y; width and height less one
abbrev pub part_bytes : Format → Subrectangle → List ℕ
part_bytes f s = pixel_if f s.color ++ (s.x * 16 + s.y) ∷ ((s.w - 1) * 16 + (s.h - 1)) ∷ []

-- how many subrectangles follow, if any do
abbrev pub count_if : List Subrectangle → List ℕ
count_if [] = []
count_if (s ∷ parts) = length (s ∷ parts) ∷ []

abbrev pub has_parts : List Subrectangle → Bool
has_parts [] = false
has_parts (s ∷ parts) = true

abbrev pub is_colored : List Subrectangle → Bool
is_colored [] = false
is_colored (s ∷ parts) = is_some s.color

-- the number of a mask
abbrev pub mask_number : Mask → ℕ
mask_number m = flag m.raw + 2 * flag m.background + 4 * flag m.foreground + 8 * flag m.subrectangles + 16 * flag m.colored

-- the mask of a tile that isn't raw: which colours it names, and whether it has subrectangles, with
-- colours of their own
abbrev pub mask_for : Option Color → Option Color → List Subrectangle → Mask
mask_for background foreground parts = record {
  raw = false;
  background = is_some background;
  foreground = is_some foreground;
  subrectangles = has_parts parts;
  colored = is_colored parts;
}

abbrev pub tile_bytes : Format → Tile → List ℕ
tile_bytes f (Raw colors) = 1 ∷ flat_map (pixel_of f) colors
tile_bytes f (Parts background foreground parts) = mask_number (mask_for background foreground parts)
    ∷ (pixel_if f background ++ (pixel_if f foreground ++ (count_if parts ++ flat_map (part_bytes f) parts)))

-- bytes are data of a rectangle whose picture is the colours, at every pixel
pub record Shows (f : Format) (w h : ℕ) (colors : List Color) (bytes : List ℕ) : Type 0 where
  pub tiles : List Tile
  pub is : IsData f w h bytes tiles
  pub bytes_are : bytes ≡ flat_map (tile_bytes f) tiles
  pub picture : Agree w h (picture_of w tiles) (rows_of colors w)

-- ---- how the encoder goes on

-- the first so many colours of a tile of width tw are those of the rectangle, whose rows have w
-- pixels
abbrev pub AreTileColors : List Color → ℕ → ℕ → ℕ → ℕ → List Color → ℕ → Type 0
AreTileColors colors w left top tw tile count = (k : ℕ) → k < count → nth tile k ≡ nth colors ((top + k / tw) * w + (left + k % tw))

-- a part lies within a tile of w by h, all of whose pixels that it covers have its colour, which
-- keeps to the format's maxima
pub record IsPart (f : Format) (w h : ℕ) (s : Part) : Type 0 where
  pub columns : s.x + s.w ≤ w
  pub rows : s.y + s.h ≤ h
  pub across : 0 < s.w
  pub down : 0 < s.h
  pub color : IsWithin f s.color

pub record IsUniform (colors : List Color) (w : ℕ) (s : Part) : Type 0 where
  pub same : (a b : ℕ) → a < s.w → b < s.h → rows_of colors w (s.x + a) (s.y + b) ≡ s.color

-- the picture of parts over a background; the latest stands first
abbrev pub part_picture : Color → List Part → Picture
part_picture background [] column row = background
part_picture background (s ∷ others) column row =
    if covers s.x s.y s.w s.h column row then s.color else part_picture background others column row

-- parts that show the colours of a tile over a background
pub record IsCover (f : Format) (w h : ℕ) (colors : List Color) (background : Color) (parts : List Part) : Type 0 where
  pub parts_are : All (IsPart f w h) parts
  pub picture : Agree w h (part_picture background (reverse parts)) (rows_of colors w)

-- What is shown after some pixels: the picture of the parts, and the colours of those pixels.
pub record ShownUpto (f : Format) (w h : ℕ) (colors : List Color) (background : Color) (parts : List Part) (shown : List Color) (k : ℕ) : Type 0 where
  pub parts_are : All (IsPart f w h) parts
  pub picture : (i : ℕ) → i < length colors → nth shown i ≡ part_picture background (reverse parts) (i % w) (i / w)
  pub right : (i : ℕ) → i < k → nth shown i ≡ nth colors i

-- a part as a subrectangle that has a colour of its own, or the foreground's
abbrev pub drawn : Bool → Part → Subrectangle
drawn colored s = record { x = s.x; y = s.y; w = s.w; h = s.h; color = if colored then Some s.color else None }

-- a value that is there or not
abbrev pub shown_if : Bool → Color → Option Color
shown_if there color = if there then Some color else None

-- what is known is what tiles named, the latest of which stands first
pub record IsKnown (before : List Tile) (known : Known) : Type 0 where
  pub background : (color : Color) → known.background ≡ Some color → background_of before ≡ Some color
  pub foreground : (color : Color) → known.foreground ≡ Some color → foreground_of before ≡ Some color

-- bytes are a tile after others, that shows the colours
pub record ShowsTile (f : Format) (w h : ℕ) (colors : List Color) (before : List Tile) (known : Known) (bytes : List ℕ) : Type 0 where
  pub tile : Tile
  pub is : IsTile f w h before tile bytes
  pub bytes_are : bytes ≡ tile_bytes f tile
  pub known_is : IsKnown (tile ∷ before) known
  pub picture : Agree w h (latest_picture w (tile ∷ before)) (rows_of colors w)

-- ---- a tile of parts

-- A mask for so many parts over a background, with `ink` for the one colour that they have, if they
-- have one. Only what is known isn't named.
pub record IsMaskFor (known : Known) (background : Color) (ink : Option Color) (count : ℕ) (m : Mask) : Type 0 where
  pub raw : m.raw ≡ false
  pub back : m.background ≡ false → known.background ≡ Some background
  pub named : m.foreground ≡ true → (color : Color) × (ink ≡ Some color)
  pub front : (color : Color) → ink ≡ Some color → m.foreground ≡ false → known.foreground ≡ Some color
  pub some : m.subrectangles ≡ false → count ≡ 0
  pub full : m.subrectangles ≡ true → 0 < count
  pub only : m.colored ≡ true → m.subrectangles ≡ true
  pub colored : m.colored ≡ true → ink ≡ None
  pub plain : m.colored ≡ false → m.subrectangles ≡ true → (color : Color) × (ink ≡ Some color)

-- what is known after a tile of parts
abbrev pub known_past : Known → Color → Option Color → Bool → Known
known_past known background ink true = record { background = None; foreground = None }
known_past known background (Some color) false = record { background = Some background; foreground = Some color }
known_past known background None false = record { background = Some background; foreground = known.foreground }

-- and its bytes
abbrev pub parts_tile_bytes : Format → Mask → Color → Color → List Part → List ℕ
parts_tile_bytes f m background foreground parts = mask_number m
    ∷ (pixel_if f (shown_if m.background background) ++ (pixel_if f (shown_if m.foreground foreground)
    ++ ((if m.subrectangles then length parts ∷ [] else []) ++ flat_map (part_bytes f) (map (drawn m.colored) parts))))

-- bytes of a mask, its fields and parts
pub record IsWritten (f : Format) (w h : ℕ) (m : Mask) (background foreground : Color) (parts : List Part) (bytes : List ℕ) : Type 0 where
  pub byte : ℕ
  pub head : List ℕ
  pub body : List ℕ
  pub bytes_are : bytes ≡ byte ∷ (head ++ body)
  pub mask_is : mask_of byte ≡ m
  pub known : byte < 32
  pub head_is : IsHead f m (shown_if m.background background) (shown_if m.foreground foreground) (if m.subrectangles then length parts else 0) head
  pub body_is : AreSubrectangles f m.colored w h (map (drawn m.colored) parts) body
