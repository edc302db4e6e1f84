-- The numbers of pixels of the host's format.
use Rattle.std.proofs.Common.{◌≡◌, ℕ, zero, suc, ◌+◌, ◌*◌, ◌/◌, ◌%◌, ◌<◌, List, [], ◌∷◌, length, take, drop, get_or, ap, ◌∙◌, arith, rules, slice_set}
use Rattle.byteorder.specs.Endian.{little_number}
use Rattle.std.specs.Simd.{first_chunks}
use Rattle.std.proofs.lemmas.List.{drop-drop, places, length-take, length-drop}
use borrow.Author.Count.{below_more}
use Rattle.pixel_format.specs.declared.Color.{Color}
use Rattle.pixel_format.specs.Pixel.{little_endian, pixel_color, host_color}
use Rattle.painter.specs.declared.pixel.Pixel.{Pixel}
use Rattle.painter.specs.Pixels.{black_pixel, color_of, color_of_number, pixel_at, pixel_color_at}

-- the highest byte plays no part
color_kept : (n : ℕ) → color_of_number (n % 16777216) ≡ color_of_number n
color_kept n =
    let made : ℕ → ℕ → ℕ → Color = λ r g b. record { r = r; g = g; b = b } in
    let red : n % 16777216 / 65536 % 256 ≡ n / 65536 % 256 = omega arith in
    let green : n % 16777216 / 256 % 256 ≡ n / 256 % 256 = omega arith in
    let blue : n % 16777216 / 1 % 256 ≡ n / 1 % 256 = omega arith in
    ap (λ r. made r (n % 16777216 / 256 % 256) (n % 16777216 / 1 % 256)) red ∙ ap (λ g. made (n / 65536 % 256) g (n % 16777216 / 1 % 256)) green ∙ ap (made (n / 65536 % 256) (n / 256 % 256)) blue

none : (n : ℕ) → 0 ≡ 0 * n
none n = omega arith

further : (k n : ℕ) → n + k * n ≡ suc k * n
further k n = omega arith

-- a chunk of a list that is cut into chunks of n
pub chunk_at : {X : Type 0} (n count k : ℕ) (xs : List X) (d : List X) → k < count → get_or (first_chunks n count xs) k d ≡ take n (drop (k * n) xs)
chunk_at n zero k xs d less = absurd (omega arith)
chunk_at n (suc count) zero xs d less = ap (λ (i : ℕ). take n (drop i xs)) (none n)
chunk_at n (suc count) (suc k) xs d less = chunk_at n count k (drop n xs) d (omega arith) ∙ ap (take n) (drop-drop (k * n) n xs) ∙ ap (λ (i : ℕ). take n (drop i xs)) (further k n)

pub number_color : (bytes : List ℕ) (n : ℕ) → length bytes ≡ 4 → n ≡ little_number 4 bytes
    → color_of_number (n % 16777216) ≡ host_color bytes
unfolding pixel_color
number_color [] n long is = absurd (omega arith)
number_color (a ∷ []) n long is = absurd (omega arith)
number_color (a ∷ b ∷ []) n long is = absurd (omega arith)
number_color (a ∷ b ∷ c ∷ []) n long is = absurd (omega arith)
number_color (a ∷ b ∷ c ∷ d ∷ []) n long is =
    let number : n ≡ little_endian (a ∷ b ∷ c ∷ d ∷ []) = is in
    color_kept n ∙ ap color_of_number number
number_color (a ∷ b ∷ c ∷ d ∷ e ∷ bytes) n long is = absurd (omega arith)

-- a pixel of bytes that are cut into pixels
pub pixel_of_chunks : (bytes : List ℕ) (chunks : List (List ℕ)) (count k : ℕ) → chunks ≡ first_chunks 4 (length bytes / 4) bytes
    → length bytes ≡ 4 * count → k < count → get_or chunks k [] ≡ pixel_at bytes k
pixel_of_chunks bytes chunks count k is long less =
    let within : k < length bytes / 4 = omega arith in
    let at : k * 4 ≡ 4 * k = omega arith in
    ap (λ cs. get_or cs k []) is ∙ chunk_at 4 (length bytes / 4) k bytes [] within ∙ ap (λ (i : ℕ). take 4 (drop i bytes)) at

pub pixel_long : (bytes : List ℕ) (count k : ℕ) → length bytes ≡ 4 * count → k < count → length (pixel_at bytes k) ≡ 4
pixel_long bytes count k long less = omega (arith, length-take 4 (drop (4 * k) bytes), length-drop (4 * k) bytes)

-- one pixel more is painted
pub row_more : (row : List Pixel) (bytes : List ℕ) (k : ℕ) (p : Pixel) → k < length row → color_of p ≡ host_color (pixel_at bytes k)
    → ((j : ℕ) → j < k → pixel_color_at row j ≡ host_color (pixel_at bytes j))
    → (j : ℕ) → j < k + 1 → pixel_color_at (slice_set row k p) j ≡ host_color (pixel_at bytes j)
row_more row bytes k p inside is so_far = below_more (λ j. pixel_color_at (slice_set row k p) j ≡ host_color (pixel_at bytes j)) k
    (λ j less.
    let same : get_or (slice_set row k p) j black_pixel ≡ get_or row j black_pixel = search (rules, places) in
    ap color_of same ∙ so_far j less)
    (let here : get_or (slice_set row k p) k black_pixel ≡ p = search (rules, places) in
    ap color_of here ∙ is)
