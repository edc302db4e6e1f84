use Rattle.std.proofs.Common.{◌≡◌, ℕ, ◌+◌, ◌*◌, ◌<◌, ◌≤◌, ◌⊎◌, inl, inr, true, false, Bool, arith, refl}
use Rattle.std.specs.Prelude.{◌||◌}
use mir.Val.{bool_byte}
use Rattle.std.proofs.Math.Nat.{mul-le-mul}
use Rattle.hextile.proofs.measuring.Measuring.wants.Goals as goal

-- at most 16 by 16 pixels, of at most four bytes each
most : (w h n : ℕ) → w ≤ 16 → h ≤ 16 → (n ≡ 1) ⊎ ((n ≡ 2) ⊎ (n ≡ 4)) → w * h * n ≤ 1024
most w h n wide high size =
    let four : n ≤ 4 = elim size [ inl a ↦ omega arith | inr b ↦ elim b [ inl d ↦ omega arith | inr e ↦ omega arith ] ] in
    mul-le-mul (mul-le-mul wide high) four

some : (background foreground count : Bool) (first second : ℕ) → (background || foreground || count) ≡ true → (background ≡ true → 0 < first)
    → (foreground ≡ true → 0 < second) → 0 < first + second + bool_byte count
some true foreground count first second is a b = let here : 0 < first = a refl in omega arith
some false true count first second is a b = let here : 0 < second = b refl in omega arith
some false false true first second is a b = omega arith
some false false false first second is a b = absurd (cc)

pub returns-in-Pixels-clause-most : goal.returns-in-Pixels-clause-most
returns-in-Pixels-clause-most c =
    let wide : c.area-area.result.w ≤ 16 = omega arith in
    let high : c.area-area.result.h ≤ 16 = omega arith in
    most c.area-area.result.w c.area-area.result.h c.bytes.result wide high c.bytes.ensures.sizes

pub returns-in-Head-clause-some : goal.returns-in-Head-clause-some
returns-in-Head-clause-some c =
    let mask = c.in-Head.head.mask in
    some mask.background mask.foreground mask.subrectangles c.pixel_size.result c.pixel_size-in-Head.result c.in-Head.head.some
    c.pixel_size.ensures.some c.pixel_size-in-Head.ensures.some
