-- Pixels in an area, and elements of a list after a part of it was written.
use Rattle.std.proofs.Common.{◌≡◌, ℕ, ◌+◌, ◌*◌, ◌<◌, ◌≤◌, List, length, get_or, inl, inr, sym, ◌∙◌, arith, rules}
use Rattle.std.proofs.lemmas.Bool.{cases_Bool, false_from_ne_true}
use Rattle.std.proofs.lemmas.List.{places}
use borrow.Rule.Slice.PartMut.{put_mid}
use Rattle.std.proofs.lemmas.Nat.{mul-add-lt}
use Rattle.terms.specs.declared.area.Area.{Area}
pub use Rattle.terms.proofs.Areas.{IsIn, in_is, is_in_true}
use Rattle.terms.specs.Area.{is_in}

-- two areas that agree on a pixel
pub same_in : (a b : Area) (x y : ℕ) → (IsIn a x y → IsIn b x y) → (IsIn b x y → IsIn a x y) → is_in a x y ≡ is_in b x y
same_in a b x y to from =
    elim (cases_Bool (is_in a x y)) [
      | inl in_a ↦ in_a ∙ sym (is_in_true b x y (to (in_is a x y in_a)))
      | inr out ↦ out ∙ sym (false_from_ne_true (is_in b x y) (λ in_b. let clash = is_in_true a x y (from (in_is b x y in_b)) in absurd cc))
    ]

-- ---- an element after the part from a on was written

pub below_part : {X : Type 0} (a k : ℕ) (xs ys : List X) (i : ℕ) (d : X) → a ≤ length xs → i < a → get_or (put_mid a k xs ys) i d ≡ get_or xs i d
below_part a k xs ys i d fits lt = search (rules, places)

pub in_part : {X : Type 0} (a k : ℕ) (xs ys : List X) (i : ℕ) (d : X) → a ≤ length xs → i < length ys → get_or (put_mid a k xs ys) (a + i) d ≡ get_or ys i d
in_part a k xs ys i d fits lt = search (rules, places)

pub above_part : {X : Type 0} (a k : ℕ) (xs ys : List X) (i : ℕ) (d : X) → a ≤ length xs → length ys ≡ k → a + k ≤ i → get_or (put_mid a k xs ys) i d ≡ get_or xs i d
above_part a k xs ys i d fits len le = search (rules, places)

-- a pixel of a higher row comes before each row below it
pub row_before : (width x y z : ℕ) → x < width → y < z → y * width + x < z * width
row_before width x y z in_row lt = omega (arith, mul-add-lt y width x z lt in_row)
