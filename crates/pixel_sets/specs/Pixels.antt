-- Sets of pixels of a screen, and its tiles.
use Rattle.std.specs.Prelude.{if◌then◌else◌, ◌≡◌, ℕ, ◌⊎◌, ◌+◌, ◌*◌, ◌/◌, ◌%◌, ◌<◌, ◌≤◌, ◌^◌, Bool, false, true, ◌&&◌, ◌||◌, nat_eq, List, [], ◌∷◌, length, map, slice_index_or}
use Rattle.std.specs.List.{range_with_len}
use Rattle.terms.specs.declared.area.Area.{Area}
use Rattle.terms.specs.Area.{is_in, HasPixels, IsSmallest}
use Rattle.pixel_sets.specs.Bits.{is_set}
use Rattle.pixel_sets.specs.declared.pixels.TilePart.{TilePart}

-- of a screen of this size, by rows from the top and the left, whether each pixel is in the set
pub record PixelSet : Type 0 where
  pub width : ℕ
  pub height : ℕ
  pub pixels : List Bool

-- the pixel is in the set
abbrev pub holds : PixelSet → ℕ → ℕ → Bool
holds set x y = slice_index_or set.pixels (y * set.width + x) false

-- just the pixels that pass this test are in the set
abbrev pub AreJust : PixelSet → (ℕ → ℕ → Bool) → Type 0
AreJust set p = (x y : ℕ) → x < set.width → y < set.height → holds set x y ≡ p x y

-- the sets are of screens of one size
pub record SameSize (old new : PixelSet) : Type 0 where
  pub width : new.width ≡ old.width
  pub height : new.height ≡ old.height

-- ---- tiles

-- how many tiles of 16 pixels stand side by side, or one below another; the last may reach beyond
-- the screen
abbrev pub tiles_of : ℕ → ℕ
tiles_of length = (length + 15) / 16

-- how many a screen has
abbrev pub tile_count : PixelSet → ℕ
tile_count set = tiles_of set.height * tiles_of set.width

-- the number of the tile that has a pixel, by rows of so many tiles from the top, each from the
-- left
abbrev pub tile_at : ℕ → ℕ → ℕ → ℕ
tile_at columns x y = (y / 16) * columns + x / 16

-- of a pixel of a set's screen
abbrev pub tile_of : PixelSet → ℕ → ℕ → ℕ
tile_of set x y = tile_at (tiles_of set.width) x y

-- a pixel of the set that lies in an area, in the tile of this number
abbrev pub is_in_tile : PixelSet → ℕ → Area → ℕ → ℕ → Bool
is_in_tile set tile area x y = is_in area x y && (nat_eq (tile_of set x y) tile && holds set x y)

-- The first tile, from this number on, that has a pixel of the set in an area, and the smallest
-- area that holds those.
pub record IsFirstTile (set : PixelSet) (from : ℕ) (area : Area) (part : TilePart) : Type 0 where
  pub from_on : from ≤ part.tile
  pub within : part.tile < tile_count set
  pub few : part.tile < 2 ^ 24
  pub pixels : HasPixels part.area
  pub smallest : IsSmallest (is_in_tile set part.tile area) part.area
  pub first : (x y : ℕ) → is_in area x y ≡ true → holds set x y ≡ true → from ≤ tile_of set x y → part.tile ≤ tile_of set x y

-- no tile from this number on has one
abbrev pub HasNoTile : PixelSet → ℕ → Area → Type 0
HasNoTile set from area = (x y : ℕ) → is_in area x y ≡ true → holds set x y ≡ true → tile_of set x y < from

-- no pixel of an area is in the set
abbrev pub HasNone : PixelSet → Area → Type 0
HasNone set area = (x y : ℕ) → is_in area x y ≡ true → holds set x y ≡ false

-- The areas of the first tiles, one after another, that have a pixel of the set in an area: those
-- from one number on to before another, and of each tile the smallest area that holds its pixels.
abbrev pub AreFirstTiles : PixelSet → Area → ℕ → ℕ → List Area → Type 0
AreFirstTiles set area from end [] = from ≡ end
AreFirstTiles set area from end (first ∷ others) =
    (tile : ℕ) × IsFirstTile set from area (record { tile = tile; area = first }) × AreFirstTiles set area (tile + 1) end others

-- an area for each tile, of which there are at most 4,096
pub record AreOfTiles (set : PixelSet) (area : Area) (areas : List Area) : Type 0 where
  pub end : ℕ
  pub first : AreFirstTiles set area 0 end areas
  pub none_left : HasNoTile set end area
  pub few : length areas ≤ 4096

-- one area alone, the smallest that holds the pixels of the set in an area
pub record IsAlone (set : PixelSet) (area : Area) (areas : List Area) : Type 0 where
  pub one : Area
  pub areas_are : areas ≡ one ∷ []
  pub smallest : IsSmallest (λ x y. is_in area x y && holds set x y) one

-- instead of those of more than 4,096 tiles
pub record IsForMany (set : PixelSet) (area : Area) (areas : List Area) : Type 0 where
  pub tiles : List Area
  pub end : ℕ
  pub first : AreFirstTiles set area 0 end tiles
  pub many : 4096 < length tiles
  pub alone : IsAlone set area areas

-- the areas by which the pixels of the set in an area are sent
abbrev pub AreSent : PixelSet → Area → List Area → Type 0
AreSent set area areas = AreOfTiles set area areas ⊎ IsForMany set area areas

-- one of the areas has the pixel
abbrev pub is_in_some : List Area → ℕ → ℕ → Bool
is_in_some [] x y = false
is_in_some (area ∷ others) x y = is_in area x y || is_in_some others x y

-- ---- words

-- The number of a pixel's bit, if so many tiles stand side by side: 256 for each tile, by its rows.
abbrev pub number_at : ℕ → ℕ → ℕ → ℕ
number_at columns x y = tile_at columns x y * 256 + y % 16 * 16 + x % 16

-- the pixel's bit is 1
abbrev pub is_marked : ℕ → List ℕ → ℕ → ℕ → Bool
is_marked columns words x y = is_set words (number_at columns x y)

-- the set whose pixels have these bits
abbrev pub pixels_of : ℕ → ℕ → List ℕ → PixelSet
pixels_of width height words = record {
  width = width;
  height = height;
  pixels = map (λ k. is_marked (tiles_of width) words (k % width) (k / width)) (range_with_len 0 (height * width));
}

-- A summary of bits of tiles: the tile of each pixel whose bit is 1 has a 1 there.
abbrev pub IsSummary : ℕ → List ℕ → List ℕ → Type 0
IsSummary columns words summary = (x y : ℕ) → x < 16 * columns → is_marked columns words x y ≡ true → is_set summary (tile_at columns x y) ≡ true

-- a sum of bits that stays one, whatever bits are given
abbrev pub KeepsSummary : (columns : ℕ) (old old_summary new new_summary : List ℕ) → Type 0
KeepsSummary columns old old_summary new new_summary = IsSummary columns old old_summary → IsSummary columns new new_summary

-- the pixels that P has are given one value, and the others stay as they were
abbrev pub AreGiven : (columns : ℕ) (old new : List ℕ) (value : Bool) (P : ℕ → ℕ → Bool) → Type 0
AreGiven columns old new value P = (x y : ℕ) → x < 16 * columns → is_marked columns new x y ≡ (if P x y then value else is_marked columns old x y)

-- bits for each pixel of so many tiles, and their summary
pub record AreTiles (width height : ℕ) (words summary : List ℕ) : Type 0 where
  pub wide : width < 2 ^ 16
  pub high : height < 2 ^ 16
  pub bits : 256 * (tiles_of height * tiles_of width) ≤ 64 * length words
  pub tiles : tiles_of height * tiles_of width ≤ 64 * length summary
  pub are : IsSummary (tiles_of width) words summary

-- The pixels that pass a test stand in one row, from one column to another; those at the ends pass.
pub record IsRow (q : ℕ → ℕ → Bool) (left right y : ℕ) : Type 0 where
  pub first : q left y ≡ true
  pub last : q right y ≡ true
  pub level : (a b : ℕ) → q a b ≡ true → b ≡ y
  pub between : (a b : ℕ) → q a b ≡ true → (left ≤ a) × (a ≤ right)

-- a part of a screen that lies in one tile, for which there are bits
pub record IsTilePart (columns : ℕ) (part : Area) (words : List ℕ) : Type 0 where
  pub few : columns ≤ 2 ^ 12
  pub column : part.x % 16 + part.w ≤ 16
  pub row : part.y % 16 + part.h ≤ 16
  pub across : part.x < 16 * columns
  pub wide : part.x + part.w < 2 ^ 16
  pub high : part.y + part.h < 2 ^ 16
  pub room : 256 * (tile_at columns part.x part.y + 1) ≤ 64 * length words

-- an area that has bits, and whose tiles have a summary
pub record HasTiles (columns : ℕ) (area : Area) (words summary : List ℕ) : Type 0 where
  pub few : columns ≤ 2 ^ 12
  pub across : area.x + area.w ≤ 16 * columns
  pub wide : area.x + area.w < 2 ^ 16
  pub high : area.y + area.h < 2 ^ 16
  pub bits : 256 * (tiles_of (area.y + area.h) * columns) ≤ 64 * length words
  pub tiles : tiles_of (area.y + area.h) * columns ≤ 64 * length summary
