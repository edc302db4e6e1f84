-- Pixels that are written one after the other.
use Rattle.std.proofs.Common.{◌≡◌, ℕ, ◌+◌, ◌-◌, ◌*◌, ◌<◌, ◌≤◌, List, length, take, drop, inl, inr, sym, ap, subst, ◌∙◌, arith}
use Rattle.std.proofs.lemmas.Bool.{cases_lt}
use Rattle.std.proofs.lemmas.List.{drop-take, drop_at, length-take, length-drop}
use Rattle.std.proofs.lemmas.Slice.{take-put_mid_below, take-put_mid}
use Rattle.std.proofs.Math.Nat.{mul-le-mul_left}
use borrow.Rule.Slice.PartMut.{put_mid}
use Rattle.pixel_format.specs.declared.Color.{Color}
use Rattle.pixel_format.specs.Format.{Format, pixel_bytes}
use Rattle.pixel_format.specs.Canvas.{nth}
use Rattle.rect_codec.specs.Picture.{pixel_at}
use Rattle.rect_codec.specs.Written.{IsPixelOf}

-- what stands before a part that is written stays
before_part : (at count n s : ℕ) (xs ys : List ℕ) → n + s ≤ at → at ≤ length xs → take s (drop n (put_mid at count xs ys)) ≡ take s (drop n xs)
before_part at count n s xs ys below fits =
    sym (drop-take n s (put_mid at count xs ys)) ∙ ap (drop n) (take-put_mid_below at count xs ys (n + s) below fits) ∙ drop-take n s xs

-- and the part is what was written
the_part : (at count s : ℕ) (xs ys : List ℕ) → at ≤ length xs → length ys ≡ s → take s (drop at (put_mid at count xs ys)) ≡ ys
the_part at count s xs ys fits size =
    let front : length (take at xs) ≡ at = simp length-take (omega arith) in
    sym (drop-take at s (put_mid at count xs ys)) ∙ ap (drop at) (take-put_mid at count xs ys (at + s) (omega arith) fits) ∙ drop_at (take at xs) ys at front

-- one pixel more is that of its colour
pub pixel_more : (f : Format) (colors : List Color) (pixels pixel : List ℕ) (k s : ℕ) → s ≡ pixel_bytes f → length pixels ≡ length colors * pixel_bytes f → k < length colors
    → length pixel ≡ length (take (k * s + s - k * s) (drop (k * s) pixels))
    → ((j : ℕ) → j < k → IsPixelOf f (nth colors j) (pixel_at f pixels j)) → IsPixelOf f (nth colors k) pixel
    → (j : ℕ) → j < k + 1 → IsPixelOf f (nth colors j) (pixel_at f (put_mid (k * s) (k * s + s - k * s) pixels pixel) j)
pixel_more f colors pixels pixel k s e size lt whole done is j near =
    let wide : (k + 1) * s ≤ length colors * s = omega (arith, mul-le-mul_left s lt) in
    let all : length pixels ≡ length colors * s = size ∙ ap (λ (n : ℕ). length colors * n) (sym e) in
    let fits : k * s ≤ length pixels = omega arith in
    let long : length pixel ≡ s = whole ∙ simp (length-take, length-drop) (omega arith) in
    elim (cases_lt j k) [
      | inl below ↦
          let there : j * s + s ≤ k * s = omega (arith, mul-le-mul_left s below) in
          let same : pixel_at f pixels j ≡ pixel_at f (put_mid (k * s) (k * s + s - k * s) pixels pixel) j =
          sym (ap (λ (n : ℕ). take n (drop (j * n) (put_mid (k * s) (k * s + s - k * s) pixels pixel))) (sym e)
          ∙ before_part (k * s) (k * s + s - k * s) (j * s) s pixels pixel there fits
          ∙ ap (λ (n : ℕ). take n (drop (j * n) pixels)) e) in
          subst (λ (z : List ℕ). IsPixelOf f (nth colors j) z) same (done j below)
      | inr above ↦
          let last : j ≡ k = omega arith in
          let same : pixel ≡ pixel_at f (put_mid (k * s) (k * s + s - k * s) pixels pixel) j =
          sym (ap (λ (n : ℕ). take n (drop (j * n) (put_mid (k * s) (k * s + s - k * s) pixels pixel))) (sym e)
          ∙ ap (λ (i : ℕ). take s (drop (i * s) (put_mid (k * s) (k * s + s - k * s) pixels pixel))) last
          ∙ the_part (k * s) (k * s + s - k * s) s pixels pixel fits long) in
          subst (λ (z : List ℕ). IsPixelOf f (nth colors j) z) same (subst (λ (i : ℕ). IsPixelOf f (nth colors i) pixel) (sym last) is)
    ]
