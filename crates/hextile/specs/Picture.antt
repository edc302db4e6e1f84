-- The picture of a Hextile rectangle (RFC 6143, section 7.7.4). Pixels count from the rectangle's
-- corner, and in a tile from the tile's.
use Rattle.std.specs.Prelude.{ℕ, ◌+◌, ◌*◌, ◌%◌, Bool, List, [], ◌∷◌, length, reverse, slice_index_or, unwrap_or, nat_eq, if◌then◌else◌}
use Rattle.pixel_format.specs.declared.Color.{Color}
use Rattle.pixel_format.specs.Canvas.{Picture, covers, laid_over, black}
use Rattle.hextile.specs.declared.fields.Subrectangle.{Subrectangle}
use Rattle.hextile.specs.Grammar.{Tile, Raw, Parts}
use Rattle.hextile.specs.Tiles.{tile_number, tile_width}
use Rattle.hextile.specs.Data.{background_of, foreground_of, onto}

-- the subrectangle covers the pixel
abbrev pub is_covered : Subrectangle → ℕ → ℕ → Bool
is_covered s column row = covers s.x s.y s.w s.h column row

-- the colour of the first of these subrectangles that covers the pixel, else the background
abbrev pub first_covering : Color → Color → List Subrectangle → Picture
first_covering background foreground [] column row = background
first_covering background foreground (s ∷ others) column row =
    if is_covered s column row then unwrap_or s.color foreground else first_covering background foreground others column row

-- The picture of a tile of width w, over this background and with this foreground: its pixels, or
-- the colour of the last subrectangle that covers the pixel, else the background.
abbrev pub tile_picture : ℕ → Color → Color → Tile → Picture
tile_picture w background foreground (Raw colors) column row = slice_index_or colors (row * w + column) black
tile_picture w background foreground (Parts named other parts) column row = first_covering background foreground (reverse parts) column row

-- The picture of the latest of some tiles, which stands first. Its background and its foreground
-- are those of the last one, itself included, that names them.
abbrev pub latest_picture : ℕ → List Tile → Picture
latest_picture w [] column row = black
latest_picture w (t ∷ before) column row =
    tile_picture w (unwrap_or (background_of (t ∷ before)) black) (unwrap_or (foreground_of (t ∷ before)) black) t column row

-- the tiles up to the one of this number; the latest stands first
abbrev pub upto : ℕ → List Tile → List Tile
upto number [] = []
upto number (t ∷ before) = if nat_eq number (length before) then t ∷ before else upto number before

-- the picture of tiles of a rectangle of width w, the latest of which stands first: at each pixel
-- that of the tile in which it lies
abbrev pub tiles_picture : ℕ → List Tile → Picture
tiles_picture w latest column row =
    latest_picture (tile_width w (tile_number w column row)) (upto (tile_number w column row) latest) (column % 16) (row % 16)

abbrev pub picture_of : ℕ → List Tile → Picture
picture_of w tiles = tiles_picture w (onto tiles [])

abbrev pub painted_over : ℕ → ℕ → ℕ → ℕ → List Tile → Picture → Picture
painted_over x y w h tiles before = laid_over x y w h (picture_of w tiles) before
