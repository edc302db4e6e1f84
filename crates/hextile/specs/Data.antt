-- What the data of a Hextile rectangle are (RFC 6143, section 7.7.4): a relation between a pixel
-- format, the rectangle's size, bytes, and the tiles that they say.
use Rattle.std.specs.Prelude.{◌≡◌, ℕ, ◌+◌, ◌*◌, ◌/◌, ◌%◌, ◌<◌, ◌⊎◌, List, [], ◌∷◌, ◌++◌, length, Option, Some, None, Bool, true, false}
use Rattle.pixel_format.specs.declared.Color.{Color}
use Rattle.pixel_format.specs.Format.{Format}
use Rattle.pixel_format.specs.Pixel.{IsPixel, ArePixels}
use Rattle.terms.specs.Area as areas
use Rattle.terms.specs.declared.area.Area.{Area}
use Rattle.hextile.specs.declared.fields.Subrectangle.{Subrectangle}
use Rattle.hextile.specs.declared.fields.Mask.{Mask}
use Rattle.hextile.specs.Tiles.{tile_count, tile_width, tile_height}
use Rattle.hextile.specs.Grammar.{Tile, Raw, Parts, mask_of}

-- ---- colours that are named

-- The background that the last of some tiles names that names one. The latest tile stands first.
abbrev pub background_of : List Tile → Option Color
background_of [] = None
background_of (Raw colors ∷ before) = background_of before
background_of (Parts None foreground parts ∷ before) = background_of before
background_of (Parts (Some color) foreground parts ∷ before) = Some color

-- and the foreground
abbrev pub foreground_of : List Tile → Option Color
foreground_of [] = None
foreground_of (Raw colors ∷ before) = foreground_of before
foreground_of (Parts background None parts ∷ before) = foreground_of before
foreground_of (Parts background (Some color) parts ∷ before) = Some color

-- there is such a colour
abbrev pub IsNamed : Option Color → Type 0
IsNamed named = (color : Color) × (named ≡ Some color)

-- What a mask of a tile that isn't raw has to keep to, after the tiles before it, the latest of
-- which stands first.
pub record IsAllowed (before : List Tile) (byte : ℕ) (m : Mask) : Type 0 where
  pub known : byte < 32
  pub apart : m.foreground ≡ true → m.colored ≡ true → ⊥
  pub background : (m.background ≡ true) ⊎ IsNamed (background_of before)
  pub foreground : m.subrectangles ≡ true → m.colored ≡ false → (m.foreground ≡ true) ⊎ IsNamed (foreground_of before)

-- ---- fields

-- a pixel that is there or not
abbrev pub IsPixelIf : Format → Bool → Option Color → List ℕ → Type 0
IsPixelIf f true None bytes = ⊥
IsPixelIf f true (Some color) bytes = IsPixel f color bytes
IsPixelIf f false color bytes = (color ≡ None) × (bytes ≡ [])

-- a number that is there, or 0
abbrev pub IsCountIf : Bool → ℕ → List ℕ → Type 0
IsCountIf true count bytes = bytes ≡ count ∷ []
IsCountIf false count bytes = (count ≡ 0) × (bytes ≡ [])

-- the area of a subrectangle
abbrev pub area_of : Subrectangle → Area
area_of s = record { x = s.x; y = s.y; w = s.w; h = s.h }

-- the subrectangle lies within a tile of w by h
abbrev pub LiesWithin : ℕ → ℕ → Subrectangle → Type 0
LiesWithin w h s = areas.LiesWithin w h (area_of s)

-- bytes of a subrectangle: a pixel, if it is coloured; x and y; width and height less one
pub record AreBytesOf (f : Format) (colored : Bool) (s : Subrectangle) (bytes : List ℕ) : Type 0 where
  pub pixel : List ℕ
  pub corner : ℕ
  pub size : ℕ
  pub bytes_are : bytes ≡ pixel ++ corner ∷ size ∷ []
  pub color_is : IsPixelIf f colored s.color pixel
  pub x_is : s.x ≡ corner / 16
  pub y_is : s.y ≡ corner % 16
  pub w_is : s.w ≡ size / 16 + 1
  pub h_is : s.h ≡ size % 16 + 1

-- subrectangles one after the other, all within the tile
abbrev pub AreSubrectangles : Format → Bool → ℕ → ℕ → List Subrectangle → List ℕ → Type 0
AreSubrectangles f colored w h [] bytes = bytes ≡ []
AreSubrectangles f colored w h (s ∷ others) bytes =
    (first : List ℕ) × (rest : List ℕ) × (bytes ≡ first ++ rest) × AreBytesOf f colored s first × LiesWithin w h s
    × AreSubrectangles f colored w h others rest

-- what stands between the mask and the subrectangles: the pixels of the background and the
-- foreground, and how many subrectangles follow
pub record IsHead (f : Format) (m : Mask) (background foreground : Option Color) (count : ℕ) (head : List ℕ) : Type 0 where
  pub first : List ℕ
  pub second : List ℕ
  pub number : List ℕ
  pub head_is : head ≡ first ++ (second ++ number)
  pub background_is : IsPixelIf f m.background background first
  pub foreground_is : IsPixelIf f m.foreground foreground second
  pub count_is : IsCountIf m.subrectangles count number

-- ---- tiles of w by h, after earlier ones, the latest of which stands first

-- bytes of a raw tile
pub record AreRaw (f : Format) (w h : ℕ) (colors : List Color) (bytes : List ℕ) : Type 0 where
  pub byte : ℕ
  pub pixels : List ℕ
  pub bytes_are : bytes ≡ byte ∷ pixels
  pub raw : (mask_of byte).raw ≡ true
  pub pixel_count : length colors ≡ w * h
  pub pixels_are : ArePixels f colors pixels

-- bytes of any other tile
pub record AreParts (f : Format) (w h : ℕ) (before : List Tile) (background foreground : Option Color) (parts : List Subrectangle) (bytes : List ℕ) : Type 0 where
  pub byte : ℕ
  pub head : List ℕ
  pub body : List ℕ
  pub bytes_are : bytes ≡ byte ∷ (head ++ body)
  pub not_raw : (mask_of byte).raw ≡ false
  pub allowed : IsAllowed before byte (mask_of byte)
  pub head_is : IsHead f (mask_of byte) background foreground (length parts) head
  pub body_is : AreSubrectangles f (mask_of byte).colored w h parts body

abbrev pub IsTile : Format → ℕ → ℕ → List Tile → Tile → List ℕ → Type 0
IsTile f w h before (Raw colors) bytes = AreRaw f w h colors bytes
IsTile f w h before (Parts background foreground parts) bytes = AreParts f w h before background foreground parts bytes

-- ---- rectangles of w by h

-- tiles one after the other; each has the number of those before it
abbrev pub AreTiles : Format → ℕ → ℕ → List Tile → List Tile → List ℕ → Type 0
AreTiles f w h before [] bytes = bytes ≡ []
AreTiles f w h before (t ∷ others) bytes =
    (first : List ℕ) × (rest : List ℕ) × (bytes ≡ first ++ rest)
    × IsTile f (tile_width w (length before)) (tile_height w h (length before)) before t first × AreTiles f w h (t ∷ before) others rest

pub record IsData (f : Format) (w h : ℕ) (bytes : List ℕ) (tiles : List Tile) : Type 0 where
  pub all : length tiles ≡ tile_count w h
  pub are : AreTiles f w h [] tiles bytes

-- the bytes are the data of a rectangle of w by h
abbrev pub AreData : Format → ℕ → ℕ → List ℕ → Type 0
AreData f w h bytes = (tiles : List Tile) × IsData f w h bytes tiles

-- ---- what is refused

-- the tiles in the other order, before others
abbrev pub onto : List Tile → List Tile → List Tile
onto [] before = before
onto (t ∷ others) before = onto others (t ∷ before)

-- the bytes begin with a mask that may not follow these tiles
pub record HasForbidden (before : List Tile) (bytes : List ℕ) : Type 0 where
  pub byte : ℕ
  pub more : List ℕ
  pub bytes_are : bytes ≡ byte ∷ more
  pub not_raw : (mask_of byte).raw ≡ false
  pub forbidden : IsAllowed before byte (mask_of byte) → ⊥

-- The bytes begin with a tile up to a subrectangle that leaves it.
pub record HasOutside (f : Format) (w h : ℕ) (before : List Tile) (bytes : List ℕ) : Type 0 where
  pub byte : ℕ
  pub head : List ℕ
  pub background : Option Color
  pub foreground : Option Color
  pub count : ℕ
  pub earlier : List Subrectangle
  pub body : List ℕ
  pub outside : Subrectangle
  pub field : List ℕ
  pub more : List ℕ
  pub bytes_are : bytes ≡ byte ∷ (head ++ (body ++ (field ++ more)))
  pub not_raw : (mask_of byte).raw ≡ false
  pub allowed : IsAllowed before byte (mask_of byte)
  pub head_is : IsHead f (mask_of byte) background foreground count head
  pub body_is : AreSubrectangles f (mask_of byte).colored w h earlier body
  pub one_of_them : length earlier < count
  pub field_is : AreBytesOf f (mask_of byte).colored outside field
  pub leaves : LiesWithin w h outside → ⊥

-- After some of the rectangle's tiles stands a mask that may not stand there, or a tile with a
-- subrectangle that leaves it.
pub record IsRefused (f : Format) (w h : ℕ) (bytes : List ℕ) : Type 0 where
  pub tiles : List Tile
  pub body : List ℕ
  pub rest : List ℕ
  pub bytes_are : bytes ≡ body ++ rest
  pub one_of_them : length tiles < tile_count w h
  pub body_is : AreTiles f w h [] tiles body
  pub next : HasForbidden (onto tiles []) rest
      ⊎ HasOutside f (tile_width w (length tiles)) (tile_height w h (length tiles)) (onto tiles []) rest
