-- Pixels, tiles, and the numbers of bits.
use Rattle.std.proofs.Common.{◌≡◌, ◌∙◌, ℕ, ◌+◌, ◌-◌, ◌*◌, ◌/◌, ◌%◌, ◌<◌, ◌≤◌, true, sym, ap, arith}
use Rattle.std.proofs.lemmas.Nat.{div-mul-add}
use Rattle.terms.specs.declared.area.Area.{Area}
use Rattle.terms.specs.Area.{is_in}
use Rattle.terms.proofs.Areas.{in_is, is_in_true, same_test}
use Rattle.pixel_sets.specs.Bits.{is_between}
use Rattle.pixel_sets.specs.Pixels.{tile_at, number_at}
use Rattle.pixel_sets.proofs.BitSets.{between_is, is_between_true}

-- pixels of one tile stand in one row and one column of tiles
pub same_tile : (columns x y a b : ℕ) → x < 16 * columns → a < 16 * columns → tile_at columns x y ≡ tile_at columns a b → (x / 16 ≡ a / 16) × (y / 16 ≡ b / 16)
same_tile columns x y a b hx ha e =
    let down : y / 16 ≡ b / 16 =
    sym (div-mul-add (y / 16) columns (x / 16) (omega arith)) ∙ ap (λ (n : ℕ). n / columns) e ∙ div-mul-add (b / 16) columns (a / 16) (omega arith) in
    let row : (y / 16) * columns ≡ (b / 16) * columns = ap (λ (n : ℕ). n * columns) down in
    (omega (arith, e, row), down)

-- two pixels have two numbers
pub apart : (columns x y a b : ℕ) → x < 16 * columns → a < 16 * columns → number_at columns x y ≡ number_at columns a b → (x ≡ a) × (y ≡ b)
apart columns x y a b hx ha e =
    let tile : tile_at columns x y ≡ tile_at columns a b = omega (arith, e) in
    let same = same_tile columns x y a b hx ha tile in
    let column = same.0 in
    let down = same.1 in
    (omega (arith, e, tile, column), omega (arith, e, tile, column, down))

-- so many rows further down, and pixels further to the right, in one tile
pub further : (columns x y row n : ℕ) → x % 16 + n < 16 → y % 16 + row < 16 → number_at columns (x + n) (y + row) ≡ number_at columns x y + row * 16 + n
further columns x y row n across down =
    let same : (y + row) / 16 ≡ y / 16 = omega arith in
    let level : (y + row) / 16 * columns ≡ y / 16 * columns = ap (λ (k : ℕ). k * columns) same in
    omega (arith, level)

-- the numbers of a row of a tile are its pixels
pub row_between : (columns row : ℕ) (area : Area) (x y : ℕ) → area.x % 16 + area.w ≤ 16 → area.y % 16 + row < 16 → area.x < 16 * columns → x < 16 * columns
    → is_between (number_at columns area.x area.y + row * 16) (number_at columns area.x area.y + row * 16 + area.w) (number_at columns x y) ≡ is_in (record area { y = area.y + row; h = 1 }) x y
row_between columns row area x y fits high left across =
    let start = number_at columns area.x area.y + row * 16 in
    same_test (is_between start (start + area.w) (number_at columns x y)) (is_in (record area { y = area.y + row; h = 1 }) x y)
    (λ e. let b = between_is start (start + area.w) (number_at columns x y) e in
    let n = number_at columns x y - start in
    let at : number_at columns x y ≡ number_at columns (area.x + n) (area.y + row) = omega (arith, further columns area.x area.y row n (omega arith) high) in
    let same = apart columns x y (area.x + n) (area.y + row) across (omega arith) at in
    let column = same.0 in
    let level = same.1 in
    is_in_true (record area { y = area.y + row; h = 1 }) x y (record { left = omega arith; right = omega arith; top = omega arith; bottom = omega arith }))
    (λ e. let pixel = in_is (record area { y = area.y + row; h = 1 }) x y e in
    let n = x - area.x in
    let column : area.x + n ≡ x = omega arith in
    let level : area.y + row ≡ y = omega arith in
    let at = rw (column, level) at (further columns area.x area.y row n (omega arith) high) in
    is_between_true start (start + area.w) (number_at columns x y) (omega (arith, at)) (omega (arith, at)))

-- the numbers of whole rows of a tile are their pixels
pub rows_between : (columns : ℕ) (area : Area) (x y : ℕ) → area.w ≡ 16 → area.x % 16 + area.w ≤ 16 → area.y % 16 + area.h ≤ 16 → area.x < 16 * columns → x < 16 * columns
    → is_between (number_at columns area.x area.y) (number_at columns area.x area.y + area.h * 16) (number_at columns x y) ≡ is_in area x y
rows_between columns area x y whole fits high left across =
    let start = number_at columns area.x area.y in
    same_test (is_between start (start + area.h * 16) (number_at columns x y)) (is_in area x y)
    (λ e. let b = between_is start (start + area.h * 16) (number_at columns x y) e in
    let row = (number_at columns x y - start) / 16 in
    let less : row < area.h = omega arith in
    let here : is_between (start + row * 16) (start + row * 16 + area.w) (number_at columns x y) ≡ true =
    is_between_true (start + row * 16) (start + row * 16 + area.w) (number_at columns x y) (omega arith) (omega arith) in
    let pixel = in_is (record area { y = area.y + row; h = 1 }) x y (sym (row_between columns row area x y fits (omega arith) left across) ∙ here) in
    is_in_true area x y (record { left = omega arith; right = omega arith; top = omega arith; bottom = omega arith }))
    (λ e. let pixel = in_is area x y e in
    let row = y - area.y in
    let level : is_in (record area { y = area.y + row; h = 1 }) x y ≡ true =
    is_in_true (record area { y = area.y + row; h = 1 }) x y (record { left = pixel.left; right = pixel.right; top = omega arith; bottom = omega arith }) in
    let b = between_is (start + row * 16) (start + row * 16 + area.w) (number_at columns x y) (row_between columns row area x y fits (omega arith) left across ∙ level) in
    is_between_true start (start + area.h * 16) (number_at columns x y) (omega arith) (omega arith))
