-- The pixels of areas.
use Rattle.std.proofs.Common.{◌≡◌, ℕ, ◌+◌, ◌-◌, ◌*◌, ◌/◌, ◌%◌, List, ◌++◌, ◌<◌, ◌≤◌, inl, inr, Bool, true, false, refl, sym, ◌∙◌, arith}
use Rattle.std.specs.Prelude.{◌||◌, ◌&&◌, min, max, ◌⊎◌, Option, Some, None}
use Rattle.std.proofs.lemmas.Bool.{and_parts, ltb-true, leb-true, lt-ltb, le-leb, cases_lt}
use Rattle.terms.specs.declared.area.Area.{Area}
use Rattle.terms.specs.Area.{area_at, area_bytes, is_in, HasPixels, IsSmallest, IsSmallestOf}

-- an area that is written is read again
u16_back : (n : ℕ) → 256 * (n / 256) + n % 256 ≡ n
u16_back n = omega arith

pub area_back : (a : Area) (more : List ℕ) → area_at (area_bytes a ++ more) 0 ≡ a
area_back a more = rw (u16_back a.x, u16_back a.y, u16_back a.w, u16_back a.h) refl

-- the pixel lies in the area, as a fact
pub record IsIn (area : Area) (x y : ℕ) : Type 0 where
  pub left : area.x ≤ x
  pub right : x < area.x + area.w
  pub top : area.y ≤ y
  pub bottom : y < area.y + area.h

pub in_is : (area : Area) (x y : ℕ) → is_in area x y ≡ true → IsIn area x y
in_is area x y e =
    let parts = and_parts _ _ e in
    let columns = and_parts _ _ parts.0 in
    let rows = and_parts _ _ parts.1 in
    record { left = leb-true _ _ columns.0; right = ltb-true _ _ columns.1; top = leb-true _ _ rows.0; bottom = ltb-true _ _ rows.1 }

pub is_in_true : (area : Area) (x y : ℕ) → IsIn area x y → is_in area x y ≡ true
is_in_true area x y h = rw (le-leb area.x x h.left, lt-ltb x (area.x + area.w) h.right, le-leb area.y y h.top, lt-ltb y (area.y + area.h) h.bottom) refl

-- ---- tests

pub same_test : (a b : Bool) → (a ≡ true → b ≡ true) → (b ≡ true → a ≡ true) → a ≡ b
same_test true b to from = sym (to refl)
same_test false true to from = from refl
same_test false false to from = refl

pub or_left : (a b : Bool) → a ≡ true → (a || b) ≡ true
or_left a b e = rw e refl

pub or_right : (a b : Bool) → b ≡ true → (a || b) ≡ true
or_right true b e = refl
or_right false b e = e

pub or_parts : (a b : Bool) → (a || b) ≡ true → (a ≡ true) ⊎ (b ≡ true)
or_parts true b e = inl refl
or_parts false b e = inr e

pub both_true : (a b : Bool) → a ≡ true → b ≡ true → (a && b) ≡ true
both_true a b p q = rw (p, q) refl

-- ---- the smallest area round two

corner : (area : Area) (x y : ℕ) → area.x ≤ x → x < area.x + area.w → area.y ≤ y → y < area.y + area.h → is_in area x y ≡ true
corner area x y l r t b = is_in_true area x y (record { left = l; right = r; top = t; bottom = b })

-- a pixel of an area is one of an area around it
wider : (inner outer : Area) (x y : ℕ) → outer.x ≤ inner.x → inner.x + inner.w ≤ outer.x + outer.w → outer.y ≤ inner.y → inner.y + inner.h ≤ outer.y + outer.h
    → is_in inner x y ≡ true → is_in outer x y ≡ true
wider inner outer x y l r t b here =
    let pixel = in_is inner x y here in
    is_in_true outer x y (record { left = omega (arith, pixel.left); right = omega (arith, pixel.right); top = omega (arith, pixel.top); bottom = omega (arith, pixel.bottom) })

pub around_both : (one other : Area) (x y right bottom : ℕ) → HasPixels one → HasPixels other
    → x ≡ min one.x other.x → y ≡ min one.y other.y → right ≡ max (one.x + one.w) (other.x + other.w) → bottom ≡ max (one.y + one.h) (other.y + other.h)
    → IsSmallest (λ a b. is_in one a b || is_in other a b) (record { x = x; y = y; w = right - x; h = bottom - y })
around_both one other x y right bottom p q x_is y_is right_is bottom_is =
    let pa = p.across in
    let pd = p.down in
    let qa = q.across in
    let qd = q.down in
    let wide : x + (right - x) ≡ right = omega arith in
    let high : y + (bottom - y) ≡ bottom = omega arith in
    record {
      holds_each = λ a b e. elim (or_parts (is_in one a b) (is_in other a b) e) [
        | inl here ↦ wider one (record { x = x; y = y; w = right - x; h = bottom - y }) a b (omega arith) (omega arith) (omega arith) (omega arith) here
        | inr here ↦ wider other (record { x = x; y = y; w = right - x; h = bottom - y }) a b (omega arith) (omega arith) (omega arith) (omega arith) here
      ];
      left = elim (cases_lt one.x other.x) [
        | inl first ↦ (one.y, or_left (is_in one x one.y) (is_in other x one.y) (corner one x one.y (omega arith) (omega arith) (omega arith) (omega arith)))
        | inr second ↦ (other.y, or_right (is_in one x other.y) (is_in other x other.y) (corner other x other.y (omega arith) (omega arith) (omega arith) (omega arith)))
      ];
      right = elim (cases_lt (other.x + other.w) (one.x + one.w)) [
        | inl first ↦ (one.y, or_left (is_in one (x + (right - x) - 1) one.y) (is_in other (x + (right - x) - 1) one.y) (corner one (x + (right - x) - 1) one.y (omega arith) (omega arith) (omega arith) (omega arith)))
        | inr second ↦ (other.y, or_right (is_in one (x + (right - x) - 1) other.y) (is_in other (x + (right - x) - 1) other.y) (corner other (x + (right - x) - 1) other.y (omega arith) (omega arith) (omega arith) (omega arith)))
      ];
      top = elim (cases_lt one.y other.y) [
        | inl first ↦ (one.x, or_left (is_in one one.x y) (is_in other one.x y) (corner one one.x y (omega arith) (omega arith) (omega arith) (omega arith)))
        | inr second ↦ (other.x, or_right (is_in one other.x y) (is_in other other.x y) (corner other other.x y (omega arith) (omega arith) (omega arith) (omega arith)))
      ];
      bottom = elim (cases_lt (other.y + other.h) (one.y + one.h)) [
        | inl first ↦ (one.x, or_left (is_in one one.x (y + (bottom - y) - 1)) (is_in other one.x (y + (bottom - y) - 1)) (corner one one.x (y + (bottom - y) - 1) (omega arith) (omega arith) (omega arith) (omega arith)))
        | inr second ↦ (other.x, or_right (is_in one other.x (y + (bottom - y) - 1)) (is_in other other.x (y + (bottom - y) - 1)) (corner other other.x (y + (bottom - y) - 1) (omega arith) (omega arith) (omega arith) (omega arith)))
      ];
    }

-- ---- smallest areas

pub same_smallest : (p q : ℕ → ℕ → Bool) → ((x y : ℕ) → p x y ≡ q x y) → (o : Option Area) → IsSmallestOf p o → IsSmallestOf q o
same_smallest p q same None none = λ x y e. none x y (same x y ∙ e)
same_smallest p q same (Some area) is = record {
  holds_each = λ x y e. is.holds_each x y (same x y ∙ e);
  left = (is.left.0, sym (same area.x is.left.0) ∙ is.left.1);
  right = (is.right.0, sym (same (area.x + area.w - 1) is.right.0) ∙ is.right.1);
  top = (is.top.0, sym (same is.top.0 area.y) ∙ is.top.1);
  bottom = (is.bottom.0, sym (same is.bottom.0 (area.y + area.h - 1)) ∙ is.bottom.1);
}
