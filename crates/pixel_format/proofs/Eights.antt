-- Colours, eight at a time, each in proportion to other maxima.
use Rattle.std.proofs.Common.{◌≡◌, ℕ, zero, suc, ◌+◌, ◌*◌, ◌/◌, ◌%◌, ◌^◌, ◌<◌, ◌≤◌, List, [], ◌∷◌, ◌-◌, ◌++◌, ◌∙◌, length, map, take, drop, get_or, refl, sym, ap, ap₂, subst, arith}
use Rattle.std.specs.Prelude.{replicate, slice_index_or}
use borrow.Rule.Slice.PartMut.{put_mid}
use Rattle.std.proofs.lemmas.Slice.{take-put_mid}
use Rattle.std.proofs.lemmas.List.{drop-take, take-append-drop, take-take, map-append, length-map, length-take-le, length-drop, length-append}
use Rattle.std.specs.Simd.Lanes.{zip2, Each1, Each2}
use Rattle.std.proofs.lemmas.Nat.{mul-le}
use Rattle.std.specs.Prelude.{All}
use Rattle.std.proofs.lemmas.List.Elements.{All-map}
use Rattle.std.proofs.Math.Nat.{mul-le-mul_left}
use Rattle.pixel_format.specs.declared.Color.{Color}
use Rattle.pixel_format.specs.Format.{Format}
use Rattle.pixel_format.specs.Pixel.{IsScreenColor, IsWithin, converted, converted_channel}

-- what a division by lanes of 255 asks
pub divided : (xs : List ℕ) (n : ℕ) → Each2 (λ (a b : ℕ). 0 < b) xs (replicate n 255)
divided [] n = tt
divided (x ∷ xs) zero = tt
divided (x ∷ xs) (suc n) = (omega arith, divided xs n)

lane : (max v : ℕ) → max ≤ 255 → v ≤ 255 → (v * max % 2 ^ 16 + 127) % 2 ^ 16 / 255 ≡ converted_channel max v
lane max v m s = omega (arith, mul-le v max 255 255 s m)

-- no lane wraps
pub scaled : (max n : ℕ) → max ≤ 255 → (xs : List ℕ) → length xs ≡ n → Each1 (λ v. v ≤ 255) xs
    → zip2 (λ a b. a / b) (zip2 (λ a b. (a + b) % 2 ^ 16) (zip2 (λ a b. (a * b) % 2 ^ 16) xs (replicate n max)) (replicate n 127)) (replicate n 255)
    ≡ map (converted_channel max) xs
scaled max zero m [] l e = refl
scaled max zero m (x ∷ xs) l e = absurd (omega arith)
scaled max (suc n) m [] l e = absurd (omega arith)
scaled max (suc n) m (x ∷ xs) l e = ap₂ (λ y ys. y ∷ ys) (lane max x m e.0) (scaled max n m xs (omega arith) e.1)

-- eight elements, one by one
pub eight : {X Y : Type 0} (f : X → Y) (d : X) (xs : List X) → length xs ≡ 8
    → f (slice_index_or xs 0 d) ∷ f (slice_index_or xs 1 d) ∷ f (slice_index_or xs 2 d) ∷ f (slice_index_or xs 3 d) ∷ f (slice_index_or xs 4 d)
    ∷ f (slice_index_or xs 5 d) ∷ f (slice_index_or xs 6 d) ∷ f (slice_index_or xs 7 d) ∷ [] ≡ map f xs
eight f d (a ∷ b ∷ c ∷ e ∷ g ∷ h ∷ i ∷ j ∷ []) l = refl
eight f d [] l = absurd (omega arith)
eight f d (a ∷ []) l = absurd (omega arith)
eight f d (a ∷ b ∷ []) l = absurd (omega arith)
eight f d (a ∷ b ∷ c ∷ []) l = absurd (omega arith)
eight f d (a ∷ b ∷ c ∷ e ∷ []) l = absurd (omega arith)
eight f d (a ∷ b ∷ c ∷ e ∷ g ∷ []) l = absurd (omega arith)
eight f d (a ∷ b ∷ c ∷ e ∷ g ∷ h ∷ []) l = absurd (omega arith)
eight f d (a ∷ b ∷ c ∷ e ∷ g ∷ h ∷ i ∷ []) l = absurd (omega arith)
eight f d (a ∷ b ∷ c ∷ e ∷ g ∷ h ∷ i ∷ j ∷ k ∷ xs) l = absurd (omega arith)

-- the first a + n elements are the first a and the n after them
take-more : {X : Type 0} (xs : List X) (a n : ℕ) → take (a + n) xs ≡ take a xs ++ take n (drop a xs)
take-more xs a n =
    let whole = take-append-drop a (take (a + n) xs) in
    sym (rw (take-take a (a + n) xs (omega arith), drop-take a n xs) at whole)

-- so many more elements were written, each by f from the one at its position
pub more : {X Y : Type 0} (f : X → Y) (n i : ℕ) (xs : List X) (ys new : List Y) → i + n ≤ length xs → length ys ≡ length xs
    → take i ys ≡ map f (take i xs) → new ≡ map f (take (i + n - i) (drop i xs))
    → take (i + n) (put_mid i (i + n - i) ys new) ≡ map f (take (i + n) xs)
more f n i xs ys new within size done is =
    let count : i + n - i ≡ n = omega arith in
    let new_is : new ≡ map f (take n (drop i xs)) = is ∙ ap (λ k. map f (take k (drop i xs))) count in
    let long : length new ≡ n = ap length new_is ∙ length-map (take n (drop i xs)) f ∙ length-take-le n (drop i xs) (omega (arith, length-drop i xs, within)) in
    take-put_mid i (i + n - i) ys new (i + n) (omega arith) (omega arith)
    ∙ ap₂ (λ a b. a ++ b) done new_is
    ∙ sym (ap (map f) (take-more xs i n) ∙ map-append f (take i xs) (take n (drop i xs)))

-- the length stays
pub same_length : {X : Type 0} (n i : ℕ) (ys new : List X) → i + n ≤ length ys → length new ≡ n → length (put_mid i (i + n - i) ys new) ≡ length ys
same_length n i ys new within size =
    length-append (take i ys) (new ++ drop (i + n - i) (drop i ys))
    ∙ omega (arith, length-append new (drop (i + n - i) (drop i ys)), length-take-le i ys (omega (arith, within)), length-drop (i + n - i) (drop i ys), length-drop i ys, size, within)

-- a channel keeps to its maximum
within_max : (max v : ℕ) → v ≤ 255 → converted_channel max v ≤ max
within_max max v s = omega (arith, mul-le-mul_left max s)

-- and so do colours that are converted
pub all_within : (f : Format) (colors row : List Color) → row ≡ map (converted f) colors → All IsScreenColor colors → All (IsWithin f) row
all_within f colors row is all =
    let each : All (λ color. IsWithin f (converted f color)) colors = λ k d less.
    let one = all k d less in
    record {
      red = within_max f.red.max (get_or colors k d).r one.red;
      green = within_max f.green.max (get_or colors k d).g one.green;
      blue = within_max f.blue.max (get_or colors k d).b one.blue;
    } in
    subst (λ cs. All (IsWithin f) cs) (sym is) (All-map (IsWithin f) (converted f) colors each)
