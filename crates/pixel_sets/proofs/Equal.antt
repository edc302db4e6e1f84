-- Sets that hold the same pixels.
use Rattle.std.proofs.Common.{◌≡◌, ℕ, zero, suc, ◌+◌, ◌*◌, ◌/◌, ◌%◌, ◌<◌, Bool, false, List, [], ◌∷◌, length, get_or, refl, sym, ap, ◌∙◌, arith}
use Rattle.std.proofs.Math.Nat.{mod-lt, mod-add-div', div-lt_iff_lt-mul}
use Rattle.pixel_sets.specs.Pixels.{PixelSet, holds, SameSize}

same_list : (xs ys : List Bool) → length xs ≡ length ys → ((k : ℕ) → k < length xs → get_or xs k false ≡ get_or ys k false) → xs ≡ ys
same_list [] [] size same = refl
same_list [] (y ∷ ys) size same = absurd (omega arith)
same_list (x ∷ xs) [] size same = absurd (omega arith)
same_list (x ∷ xs) (y ∷ ys) size same =
    ap (λ (b : Bool). b ∷ xs) (same 0 (omega arith)) ∙ ap (λ (l : List Bool). y ∷ l) (same_list xs ys (omega arith) (λ k lt. same (suc k) (omega arith)))

-- if there is a pixel there is a column
width_some : (w h k : ℕ) → k < h * w → zero < w
width_some zero h k less = absurd (omega arith)
width_some (suc w) h k less = omega arith

-- a set of a size is given by the pixels that it holds
pub same_set : (a b : PixelSet) → length a.pixels ≡ a.height * a.width → length b.pixels ≡ b.height * b.width → SameSize a b
    → ((x y : ℕ) → x < a.width → y < a.height → holds b x y ≡ holds a x y) → b ≡ a
same_set a b many_a many_b size same =
    let at : (k : ℕ) → k < length b.pixels → get_or b.pixels k false ≡ get_or a.pixels k false = λ k lt.
    let area : length b.pixels ≡ a.height * a.width = many_b ∙ ap (λ (n : ℕ). n * b.width) size.height ∙ ap (λ (n : ℕ). a.height * n) size.width in
    let some : zero < a.width = width_some a.width a.height k (omega arith) in
    let row : k / a.width < a.height = (div-lt_iff_lt-mul some).1 (omega arith) in
    let here : k / a.width * a.width + k % a.width ≡ k = omega (arith, mod-add-div' k a.width) in
    sym (ap (λ (n : ℕ). get_or b.pixels n false) (ap (λ (w : ℕ). k / a.width * w + k % a.width) size.width ∙ here))
    ∙ same (k % a.width) (k / a.width) (mod-lt k some) row
    ∙ ap (λ (n : ℕ). get_or a.pixels n false) here in
    let pixels : b.pixels ≡ a.pixels = same_list b.pixels a.pixels (many_b ∙ ap (λ (n : ℕ). n * b.width) size.height ∙ ap (λ (n : ℕ). a.height * n) size.width ∙ sym many_a) at in
    ap (λ (l : List Bool). record { width = b.width; height = b.height; pixels = l }) pixels
    ∙ ap (λ (n : ℕ). record { width = n; height = b.height; pixels = a.pixels }) size.width
    ∙ ap (λ (n : ℕ). record { width = a.width; height = n; pixels = a.pixels }) size.height
