-- The areas of tiles, and the pixels in them.
use Rattle.std.proofs.Common.{◌≡◌, ℕ, zero, suc, ◌+◌, ◌-◌, ◌*◌, ◌/◌, ◌%◌, ◌<◌, ◌≤◌, true, false, mul-zero, zero-mul, sym, ap, ◌∙◌, arith, refl}
use Rattle.std.proofs.Math.Nat.{mod-lt, div-lt_iff_lt-mul, mul-pos, div-add-mod, mul_comm}
use Rattle.std.proofs.lemmas.Nat.{div-mul-add, mod-mul-add, mul-add-lt}
use Rattle.pixel_format.specs.Canvas.{covers}
use Rattle.pixel_format.proofs.Covering.{is_in, not_in}
use Rattle.hextile.specs.Tiles.{tiles_across, tile_count, tile_number, tile_left, tile_top, tile_width, tile_height}

-- a column of tiles begins within the rectangle
pub column_within : (pixel_count column : ℕ) → column < tiles_across pixel_count → column * 16 < pixel_count
unfolding tiles_across
column_within pixel_count column less = omega arith

pub some_across : (pixel_count : ℕ) → 0 < pixel_count → 0 < tiles_across pixel_count
unfolding tiles_across
some_across pixel_count some = omega arith

-- a rectangle that has a tile has pixels
pub some_pixels : (w h number : ℕ) → number < tile_count w h → (0 < w) × (0 < h)
unfolding tiles_across
some_pixels zero h number less = absurd (omega (arith, mul-zero ((h + 15) / 16)))
some_pixels (suc w) zero number less = absurd (omega (arith, zero-mul ((suc w + 15) / 16)))
some_pixels (suc w) (suc h) number less = (omega arith, omega arith)

-- the same of a tile, if the rectangle has so many columns of them
pub left_in : (w number columns : ℕ) → columns ≡ tiles_across w → 0 < w → number % columns * 16 < w
left_in w number columns is some =
    rw is (column_within w (number % tiles_across w) (mod-lt number (some_across w some)))

pub top_in : (w h number columns : ℕ) → columns ≡ tiles_across w → 0 < w → number < tile_count w h → number / columns * 16 < h
top_in w h number columns is some less =
    rw is (column_within h (number / tiles_across w) ((div-lt_iff_lt-mul {x = number} {y = tiles_across h} (some_across w some)).1 less))

-- a tile begins within the rectangle
pub record Corner (w h x y : ℕ) : Type 0 where
  pub left : x < w
  pub top : y < h

pub corner_in : (w h number columns : ℕ) → columns ≡ tiles_across w → number < tile_count w h → Corner w h (number % columns * 16) (number / columns * 16)
corner_in w h number columns is less =
    let some = some_pixels w h number less in
    record { left = left_in w number columns is some.0; top = top_in w h number columns is some.0 less }

pub left_within : (w number : ℕ) → 0 < w → tile_left w number < w
unfolding tile_left
left_within w number some = left_in w number (tiles_across w) refl some

pub top_within : (w h number : ℕ) → 0 < w → number < tile_count w h → tile_top w number < h
unfolding tile_top
top_within w h number some less = top_in w h number (tiles_across w) refl some less

-- a rectangle that has pixels has tiles, and its tiles have pixels
pub some_tiles : (w h : ℕ) → 0 < w → 0 < h → 0 < tile_count w h
some_tiles w h across down = mul-pos (some_across h down) (some_across w across)

pub some_width : (w number : ℕ) → 0 < w → 0 < tile_width w number
some_width w number some = let left = left_within w number some in omega arith

pub some_height : (w h number : ℕ) → 0 < w → number < tile_count w h → 0 < tile_height w h number
some_height w h number some less = let top = top_within w h number some less in omega arith

-- ---- pixels

-- the columns and rows of tiles in which pixels of a rectangle lie
tile_column_within : (pixel_count column : ℕ) → column < pixel_count → column / 16 < tiles_across pixel_count
unfolding tiles_across
tile_column_within pixel_count column less = omega arith

pub left_of_pixel : (w column row : ℕ) → column < w → tile_left w (tile_number w column row) ≡ column / 16 * 16
unfolding tile_left tile_number
left_of_pixel w column row across = ap (λ n. n * 16) (mod-mul-add (row / 16) (tiles_across w) (column / 16) (tile_column_within w column across))

pub top_of_pixel : (w column row : ℕ) → column < w → tile_top w (tile_number w column row) ≡ row / 16 * 16
unfolding tile_top tile_number
top_of_pixel w column row across = ap (λ n. n * 16) (div-mul-add (row / 16) (tiles_across w) (column / 16) (tile_column_within w column across))

pub number_within : (w h column row : ℕ) → column < w → row < h → tile_number w column row < tile_count w h
unfolding tile_number
number_within w h column row across down =
    rw (mul_comm (tiles_across h) (tiles_across w))
    (mul-add-lt (row / 16) (tiles_across w) (column / 16) (tiles_across h) (tile_column_within h row down) (tile_column_within w column across))

-- the tile of a pixel covers it, and there it lies at the rests by 16
pub record IsInTile (w h column row number : ℕ) : Type 0 where
  pub covered : covers (tile_left w number) (tile_top w number) (tile_width w number) (tile_height w h number) column row ≡ true
  pub across : column - tile_left w number ≡ column % 16
  pub down : row - tile_top w number ≡ row % 16

pub in_its_tile : (w h column row number : ℕ) → column < w → row < h → tile_number w column row ≡ number → IsInTile w h column row number
in_its_tile w h column row number across down is =
    let left : tile_left w number ≡ column / 16 * 16 = ap (tile_left w) (sym is) ∙ left_of_pixel w column row across in
    let top : tile_top w number ≡ row / 16 * 16 = ap (tile_top w) (sym is) ∙ top_of_pixel w column row across in
    record {
      covered = is_in (tile_left w number) (tile_top w number) (tile_width w number) (tile_height w h number) column row
          (record { left = omega (arith, left); right = omega (arith, left); top = omega (arith, top); bottom = omega (arith, top) });
      across = omega (arith, left);
      down = omega (arith, top);
    }

number_again : (columns number : ℕ) → number / columns * columns + number % columns ≡ number
number_again columns number = omega (arith, div-add-mod number columns, mul_comm (number / columns) columns)

number_of_corner : (w number column row : ℕ) → tile_left w number ≤ column → column < tile_left w number + 16 → tile_top w number ≤ row → row < tile_top w number + 16
    → tile_number w column row ≡ number
unfolding tile_left tile_top tile_number
number_of_corner w number column row left right top bottom =
    let columns = tiles_across w in
    let across : column / 16 ≡ number % columns = omega arith in
    let down : row / 16 ≡ number / columns = omega arith in
    rw (across, down) (number_again columns number)

-- and no other tile covers it
pub not_in_other : (w h column row number : ℕ) → (tile_number w column row ≡ number → ⊥)
    → covers (tile_left w number) (tile_top w number) (tile_width w number) (tile_height w h number) column row ≡ false
not_in_other w h column row number other =
    not_in (tile_left w number) (tile_top w number) (tile_width w number) (tile_height w h number) column row (λ is.
    let l = is.left in
    let r = is.right in
    let t = is.top in
    let o = is.bottom in
    other (number_of_corner w number column row l (omega arith) t (omega arith)))

-- a tile lies within the rectangle
pub tile_across : (w number : ℕ) → 0 < w → tile_left w number + tile_width w number ≤ w
tile_across w number some = let left = left_within w number some in omega arith

pub tile_down : (w h number : ℕ) → 0 < w → number < tile_count w h → tile_top w number + tile_height w h number ≤ h
tile_down w h number some less = let top = top_within w h number some less in omega arith

-- the pixels of a tile, row by row, lie in the rectangle
pub index_inside : (w h number tw th k : ℕ) → number < tile_count w h → tw ≡ tile_width w number → th ≡ tile_height w h number → k < tw * th
    → (tile_top w number + k / tw) * w + (tile_left w number + k % tw) < h * w
index_inside w h number tw th k less tw_is th_is short =
    let some = some_pixels w h number less in
    let wide : 0 < tw = rw tw_is (some_width w number some.0) in
    let across : tile_left w number + k % tw < w = let m = mod-lt k wide in let t = tile_across w number some.0 in omega (arith, tw_is) in
    let down : tile_top w number + k / tw < h =
    let m = (div-lt_iff_lt-mul {x = k} {y = th} wide).1 (rw (mul_comm th tw) short) in let t = tile_down w h number some.0 less in omega (arith, th_is) in
    rw (mul_comm h w) (mul-add-lt (tile_top w number + k / tw) w (tile_left w number + k % tw) h down across)
