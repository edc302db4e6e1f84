-- The tiles of a rectangle (RFC 6143, section 7.7.4): 16 by 16 pixels each, from the left and by
-- rows from the top. Those of the last column are narrower, and those of the last row lower, if 16
-- doesn't divide the rectangle's width or height. Tiles have numbers, from 0 on.
use Rattle.std.specs.Prelude.{ℕ, ◌+◌, ◌-◌, ◌*◌, ◌/◌, ◌%◌, min}

-- how many tiles cover so many pixels side by side
unfoldable pub tiles_across : ℕ → ℕ
tiles_across pixel_count = (pixel_count + 15) / 16

-- how many tiles a rectangle of w by h has; one of no area has none
abbrev pub tile_count : ℕ → ℕ → ℕ
tile_count w h = tiles_across h * tiles_across w

-- the tile in which a pixel of a rectangle of width w lies
unfoldable pub tile_number : ℕ → ℕ → ℕ → ℕ
tile_number w column row = row / 16 * tiles_across w + column / 16

-- the upper left corner of a tile, from that of the rectangle
unfoldable pub tile_left : ℕ → ℕ → ℕ
tile_left w number = number % tiles_across w * 16

unfoldable pub tile_top : ℕ → ℕ → ℕ
tile_top w number = number / tiles_across w * 16

-- how many pixels a tile has each way
abbrev pub tile_width : ℕ → ℕ → ℕ
tile_width w number = min 16 (w - tile_left w number)

abbrev pub tile_height : ℕ → ℕ → ℕ → ℕ
tile_height w h number = min 16 (h - tile_top w number)
