-- An area, row by row.
use Rattle.std.proofs.Common.{◌≡◌, ℕ, ◌+◌, inl, inr, Bool, true, false, cond, refl, arith}
use Rattle.std.specs.Prelude.{◌||◌}
use Rattle.std.proofs.lemmas.Bool.{cases_lt, false_from_ne_true}
use Rattle.terms.specs.declared.area.Area.{Area}
use Rattle.terms.specs.Area.{is_in}
use Rattle.terms.proofs.Areas.{in_is, is_in_true, same_test, or_left, or_right, or_parts}

-- the first rows of an area, and one of its rows
abbrev pub rows : Area → ℕ → Area
rows area count = record area { h = count }

abbrev pub row_of : Area → ℕ → Area
row_of area row = record area { y = area.y + row; h = 1 }

-- the first rows, and the next one
pub rows_more : (area : Area) (row x y : ℕ) → (is_in (rows area row) x y || is_in (row_of area row) x y) ≡ is_in (rows area (row + 1)) x y
rows_more area row x y =
    same_test (is_in (rows area row) x y || is_in (row_of area row) x y) (is_in (rows area (row + 1)) x y)
    (λ e. elim (or_parts (is_in (rows area row) x y) (is_in (row_of area row) x y) e) [
      | inl before ↦ (let pixel = in_is (rows area row) x y before in
          is_in_true (rows area (row + 1)) x y (record { left = pixel.left; right = pixel.right; top = pixel.top; bottom = omega arith }))
      | inr level ↦ (let pixel = in_is (row_of area row) x y level in
          is_in_true (rows area (row + 1)) x y (record { left = pixel.left; right = pixel.right; top = omega arith; bottom = omega arith }))
    ])
    (λ e. let pixel = in_is (rows area (row + 1)) x y e in
    elim (cases_lt y (area.y + row)) [
      | inl above ↦ or_left (is_in (rows area row) x y) (is_in (row_of area row) x y) (is_in_true (rows area row) x y (record { left = pixel.left; right = pixel.right; top = pixel.top; bottom = above }))
      | inr level ↦ or_right (is_in (rows area row) x y) (is_in (row_of area row) x y) (is_in_true (row_of area row) x y (record { left = pixel.left; right = pixel.right; top = level; bottom = omega arith }))
    ])

pub chosen_twice : (a b v c : Bool) → cond b v (cond a v c) ≡ cond (a || b) v c
chosen_twice true true v c = refl
chosen_twice true false v c = refl
chosen_twice false true v c = refl
chosen_twice false false v c = refl

-- no row, no pixel
pub no_rows : (area : Area) (x y : ℕ) → is_in (rows area 0) x y ≡ false
no_rows area x y = false_from_ne_true (is_in (rows area 0) x y) (λ e. let pixel = in_is (rows area 0) x y e in let top = pixel.top in let bottom = pixel.bottom in absurd (omega arith))
