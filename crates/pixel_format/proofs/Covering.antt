-- Areas, and the pixels that they cover.
use Rattle.std.proofs.Common.{◌≡◌, ℕ, ◌+◌, ◌-◌, ◌<◌, ◌≤◌, inl, inr, true, false, refl, sym, ◌∙◌, arith}
use Rattle.std.proofs.lemmas.Bool.{and_parts, ltb-true, leb-true, lt-ltb, le-leb, cases_Bool, false_from_ne_true}
use Rattle.pixel_format.specs.Canvas.{covers}

-- the pixel lies in the area, as a fact
pub record IsIn (x y w h column row : ℕ) : Type 0 where
  pub left : x ≤ column
  pub right : column < x + w
  pub top : y ≤ row
  pub bottom : row < y + h

pub in_is : (x y w h column row : ℕ) → covers x y w h column row ≡ true → IsIn x y w h column row
in_is x y w h column row e =
    let parts = and_parts _ _ e in
    let columns = and_parts _ _ parts.0 in
    let rows = and_parts _ _ parts.1 in
    record { left = leb-true _ _ columns.0; right = ltb-true _ _ columns.1; top = leb-true _ _ rows.0; bottom = ltb-true _ _ rows.1 }

pub is_in : (x y w h column row : ℕ) → IsIn x y w h column row → covers x y w h column row ≡ true
is_in x y w h column row is = rw (le-leb x column is.left, lt-ltb column (x + w) is.right, le-leb y row is.top, lt-ltb row (y + h) is.bottom) refl

pub not_in : (x y w h column row : ℕ) → (IsIn x y w h column row → ⊥) → covers x y w h column row ≡ false
not_in x y w h column row out = false_from_ne_true (covers x y w h column row) (λ e. out (in_is x y w h column row e))

-- a part of a rectangle covers the same pixels, whether they count from the canvas's corner or from
-- the rectangle's
pub shifted : (x y a b w h column row : ℕ) → x ≤ column → y ≤ row
    → covers (x + a) (y + b) w h column row ≡ covers a b w h (column - x) (row - y)
shifted x y a b w h column row left top =
    elim (cases_Bool (covers a b w h (column - x) (row - y))) [
      | inl here ↦
          let is = in_is a b w h (column - x) (row - y) here in
          let l = is.left in
          let r = is.right in
          let t = is.top in
          let o = is.bottom in
          is_in (x + a) (y + b) w h column row (record { left = omega arith; right = omega arith; top = omega arith; bottom = omega arith }) ∙ sym here
      | inr away ↦
          not_in (x + a) (y + b) w h column row (λ is.
          let l = is.left in
          let r = is.right in
          let t = is.top in
          let o = is.bottom in
          let clash = is_in a b w h (column - x) (row - y) (record { left = omega arith; right = omega arith; top = omega arith; bottom = omega arith }) in
          absurd (cc)) ∙ sym away
    ]

-- a part within a rectangle covers no pixel outside it
pub part_outside : (x y w h a b v k column row : ℕ) → a + v ≤ w → b + k ≤ h → covers x y w h column row ≡ false
    → covers (x + a) (y + b) v k column row ≡ false
part_outside x y w h a b v k column row columns rows away =
    not_in (x + a) (y + b) v k column row (λ is.
    let l = is.left in
    let r = is.right in
    let t = is.top in
    let o = is.bottom in
    let clash = is_in x y w h column row (record { left = omega arith; right = omega arith; top = omega arith; bottom = omega arith }) in
    absurd (cc))
