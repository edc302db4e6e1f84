-- Painting pixels by rows, pixel by pixel.
use Rattle.std.proofs.Common.{◌≡◌, ℕ, zero, suc, ◌+◌, ◌-◌, ◌*◌, ◌/◌, ◌%◌, ◌<◌, ◌≤◌, inl, inr, true, false, cond, List, take, drop, refl, sym, ap, ◌∙◌, arith, zero-mul}
use Rattle.std.specs.Prelude.{nat_lt, ◌&&◌}
use Rattle.std.proofs.Math.Nat.{mod-lt, div-lt_iff_lt-mul, div-add-mod, mul_comm}
use Rattle.std.proofs.lemmas.Nat.{div-mul-add, mod-mul-add, mul-add-lt}
use Rattle.std.proofs.lemmas.Bool.{cases_Bool, cases_eq, cases_lt, lt-ltb, le-ltb}
use Rattle.pixel_format.specs.declared.Color.{Color}
use Rattle.pixel_format.specs.Format.{Format, pixel_bytes}
use Rattle.pixel_format.specs.Pixel.{pixel_color}
use Rattle.pixel_format.specs.Canvas.{Picture, covers, filled, laid_over, pixel_in, pixel_rows}
use Rattle.pixel_format.proofs.Covering.{IsIn, in_is, is_in, not_in, part_outside}

-- the first pixels are painted
abbrev pub pixels_upto : Format → ℕ → ℕ → ℕ → ℕ → List ℕ → ℕ → Picture → Picture
pixels_upto f x y w h pixels k old column row =
    cond (covers x y w h column row && nat_lt ((row - y) * w + (column - x)) k) (pixel_rows f w pixels (column - x) (row - y)) (old column row)

pub within_area : (w h column row : ℕ) → column < w → row < h → row * w + column < w * h
within_area w h column row across down = mul-add-lt row w column h down across

div-mul-mod : (k w : ℕ) → k / w * w + k % w ≡ k
div-mul-mod k w = omega (arith, div-add-mod k w, mul_comm (k / w) w)

-- a pixel of the tile, by its index
one_index : (x y w h k column row : ℕ) → IsIn x y w h column row → 0 < w → (row - y) * w + (column - x) ≡ k
    → covers (x + k % w) (y + k / w) 1 1 column row ≡ true
one_index x y w h k column row is some same =
    let l = is.left in
    let r = is.right in
    let t = is.top in
    let less : column - x < w = omega arith in
    let across : k % w ≡ column - x = ap (λ n. n % w) (sym same) ∙ mod-mul-add (row - y) w (column - x) less in
    let down : k / w ≡ row - y = ap (λ n. n / w) (sym same) ∙ div-mul-add (row - y) w (column - x) less in
    is_in (x + k % w) (y + k / w) 1 1 column row (record { left = omega arith; right = omega arith; top = omega arith; bottom = omega arith })

other_index : (x y w k column row : ℕ) → 0 < w → ((row - y) * w + (column - x) ≡ k → ⊥) → covers (x + k % w) (y + k / w) 1 1 column row ≡ false
other_index x y w k column row some other =
    not_in (x + k % w) (y + k / w) 1 1 column row (λ is.
    let l = is.left in
    let r = is.right in
    let t = is.top in
    let o = is.bottom in
    let across : column - x ≡ k % w = omega arith in
    let down : row - y ≡ k / w = omega arith in
    let whole : k / w * w + k % w ≡ k = div-mul-mod k w in
    other (rw (across, down) whole))

pub pixels_go : (f : Format) (x y w h k : ℕ) (pixels : List ℕ) (color : Color) (old between : Picture) (column row : ℕ) → k < w * h → 0 < w
    → color ≡ pixel_in f pixels k → between column row ≡ pixels_upto f x y w h pixels k old column row
    → filled (x + k % w) (y + k / w) 1 1 color between column row ≡ pixels_upto f x y w h pixels (k + 1) old column row
pixels_go f x y w h k pixels color old between column row less some color_is before =
    let index = (row - y) * w + (column - x) in
    elim (cases_Bool (covers x y w h column row)) [
      | inl here ↦ elim (cases_eq index k) [
        | inl same ↦
            let in_it = one_index x y w h k column row (in_is x y w h column row here) some same in
            let next : nat_lt index (k + 1) ≡ true = lt-ltb index (k + 1) (omega (arith, same)) in
            rw (in_it, here, next) (color_is ∙ ap (λ n. pixel_in f pixels n) (sym same))
        | inr other ↦
            let off = other_index x y w k column row some other in
            let next : nat_lt index (k + 1) ≡ nat_lt index k = elim (cases_lt index k) [
              | inl below ↦ rw (lt-ltb index k below, lt-ltb index (k + 1) (omega (arith, below))) refl
              | inr above ↦ rw (le-ltb index k above, le-ltb index (k + 1) (omega (arith, above, other))) refl
            ] in
            rw (off, next) before
      ]
      | inr away ↦
          let across : k % w + 1 ≤ w = let m = mod-lt k some in omega (arith, m) in
          let down : k / w + 1 ≤ h = let m = (div-lt_iff_lt-mul {x = k} {y = h} some).1 (rw (mul_comm h w) less) in omega (arith, m) in
          let off = part_outside x y w h (k % w) (k / w) 1 1 column row across down away in
          rw off (before ∙ rw away refl)
    ]

pub some_wide : (w h k : ℕ) → k < w * h → 0 < w
some_wide zero h k less = absurd (omega (arith, zero-mul h))
some_wide (suc w) h k less = omega arith

pub pixels_end : (f : Format) (x y w h : ℕ) (pixels : List ℕ) (old : Picture) (column row : ℕ)
    → pixels_upto f x y w h pixels (w * h) old column row ≡ laid_over x y w h (pixel_rows f w pixels) old column row
pixels_end f x y w h pixels old column row = elim (cases_Bool (covers x y w h column row)) [
  | inl here ↦
      let is = in_is x y w h column row here in
      let all : nat_lt ((row - y) * w + (column - x)) (w * h) ≡ true = lt-ltb _ _ (within_area w h (column - x) (row - y) (omega (arith, is.left, is.right)) (omega (arith, is.top, is.bottom))) in
      rw (here, all) refl
  | inr away ↦ rw away refl
]

-- a pixel, as the code takes it
pub pixel_taken : (f : Format) (n k : ℕ) (pixels : List ℕ) → n ≡ pixel_bytes f
    → pixel_color f (take (k * n + n - k * n) (drop (k * n) pixels)) ≡ pixel_in f pixels k
pixel_taken f n k pixels is =
    let size : k * n + n - k * n ≡ n = omega arith in
    ap (λ m. pixel_color f (take m (drop (k * n) pixels))) size
    ∙ ap (λ m. pixel_color f (take m (drop (k * m) pixels))) is
