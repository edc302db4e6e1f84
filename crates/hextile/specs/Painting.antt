-- How a rectangle is painted tile by tile.
use Rattle.std.specs.Prelude.{◌≡◌, ℕ, ◌+◌, Bool, List, [], ◌∷◌, unwrap_or, reverse, if◌then◌else◌}
use Rattle.pixel_format.specs.declared.Color.{Color}
use Rattle.pixel_format.specs.Format.{Format}
use Rattle.pixel_format.specs.Canvas.{Picture, covers, Agree}
use Rattle.terms.specs.Reading.{Got}
use Rattle.hextile.specs.declared.fields.Mask.{Mask}
use Rattle.hextile.specs.declared.fields.Named.{Named}
use Rattle.hextile.specs.declared.fields.Subrectangle.{Subrectangle}
use Rattle.hextile.specs.declared.painting.TileColors.{TileColors}
use Rattle.hextile.specs.Data.{LiesWithin}
use Rattle.hextile.specs.Grammar.{Tile, Raw, Parts, background_in, foreground_in, subrectangles_at, tile_at}

-- the running colours, once those are named that there are
abbrev pub named_in_head : Format → Mask → List ℕ → TileColors → TileColors
named_in_head f m head colors = record {
  background = unwrap_or (background_in f m head) colors.background;
  foreground = unwrap_or (foreground_in f m head) colors.foreground;
}

-- and once a tile is painted
abbrev pub carried : TileColors → Tile → TileColors
carried colors (Raw pixels) = colors
carried colors (Parts background foreground parts) = record {
  background = unwrap_or background colors.background;
  foreground = unwrap_or foreground colors.foreground;
}

-- the bytes begin with a tile of w by h
pub record BeginsWithTile (f : Format) (w h : ℕ) (bytes : List ℕ) : Type 0 where
  pub named : Named
  pub tile : Tile
  pub rest : List ℕ
  pub is : tile_at f named w h bytes ≡ Got tile rest

-- the bytes begin with so many subrectangles of such a tile
pub record BeginsWithParts (f : Format) (colored : Bool) (w h count : ℕ) (bytes : List ℕ) : Type 0 where
  pub parts : List Subrectangle
  pub rest : List ℕ
  pub is : subrectangles_at f colored w h count bytes ≡ Got parts rest

-- subrectangles of a tile whose upper left corner is (x, y), over a picture; the latest stands
-- first
abbrev pub parts_over : ℕ → ℕ → Color → List Subrectangle → Picture → Picture
parts_over x y foreground [] before column row = before column row
parts_over x y foreground (s ∷ others) before column row =
    if covers (x + s.x) (y + s.y) s.w s.h column row then unwrap_or s.color foreground else parts_over x y foreground others before column row

-- all of them lie within a tile of w by h
abbrev pub AreWithin : ℕ → ℕ → List Subrectangle → Type 0
AreWithin w h [] = Unit {0}
AreWithin w h (s ∷ others) = LiesWithin w h s × AreWithin w h others

-- subrectangles within a tile of w by h are painted over a picture
pub record PartsPainted (x y w h : ℕ) (foreground : Color) (parts : List Subrectangle) (width height : ℕ) (old new : Picture) : Type 0 where
  pub within : AreWithin w h (reverse parts)
  pub shows : Agree width height new (parts_over x y foreground (reverse parts) old)
