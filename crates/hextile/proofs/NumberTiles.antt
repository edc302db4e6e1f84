-- Tiles whose pixels are numbers, and the colours of these.
use Rattle.std.proofs.Common.{◌≡◌, ℕ, ◌+◌, ◌*◌, ◌/◌, ◌%◌, ◌<◌, ◌≤◌, Bool, true, false, cond, inl, inr, List, length, set, take, get_or, refl, sym, ap, subst, ◌∙◌, arith}
use Rattle.std.specs.Prelude.{All}
use Rattle.std.proofs.lemmas.Bool.{cases_eq}
use Rattle.std.proofs.lemmas.List.{get_or-set_same, get_or-set_other, get_or-take, get_or_default, length-take-le}
use Rattle.pixel_format.specs.Format.{Format}
use Rattle.pixel_format.specs.Number.{number_color, IsNumber, colors_of}
use Rattle.pixel_format.proofs.Numbers.{color_nth}
use Rattle.hextile.specs.Tiles.{tile_count, tile_left, tile_top, tile_width, tile_height}
use Rattle.hextile.specs.Encoded.{AreTileColors}
use Rattle.hextile.specs.Numbered.{AreTileNumbers}
use Rattle.hextile.proofs.Tiling.{index_inside}

pub color_if : (f : Format) (b : Bool) (m n : ℕ) → number_color f (cond b m n) ≡ cond b (number_color f m) (number_color f n)
color_if f true m n = refl
color_if f false m n = refl

-- one more of a tile's pixels
pub numbers_more : (numbers : List ℕ) (w left top tw : ℕ) (tile : List ℕ) (k n : ℕ) → k < length tile
    → AreTileNumbers numbers w left top tw tile k → n ≡ get_or numbers ((top + k / tw) * w + (left + k % tw)) 0
    → AreTileNumbers numbers w left top tw (set tile k n) (k + 1)
numbers_more numbers w left top tw tile k n fits are is = λ i less. elim (cases_eq i k) [
  | inl same ↦ ap (λ m. get_or (set tile k n) m 0) same ∙ get_or-set_same tile k n 0 fits ∙ is ∙ ap (λ m. get_or numbers ((top + m / tw) * w + (left + m % tw)) 0) (sym same)
  | inr other ↦ get_or-set_other tile k i n 0 other ∙ are i (omega (arith, other))
]

-- the colours of a tile's pixels are those of the rectangle's
pub tile_is : (f : Format) (numbers : List ℕ) (w left top tw : ℕ) (tile : List ℕ) (count : ℕ) → AreTileNumbers numbers w left top tw tile count
    → AreTileColors (colors_of f numbers) w left top tw (colors_of f tile) count
tile_is f numbers w left top tw tile count are = λ k less.
    color_nth f tile k ∙ ap (number_color f) (are k less) ∙ sym (color_nth f numbers ((top + k / tw) * w + (left + k % tw)))

-- the first so many are numbers of pixels
abbrev AreNumbersUpto : Format → List ℕ → ℕ → Type 0
AreNumbersUpto f tile count = (k : ℕ) → k < count → IsNumber f (get_or tile k 0)

pub numbers_taken : (f : Format) (tile : List ℕ) (n : ℕ) → n ≤ length tile → AreNumbersUpto f tile n → All (IsNumber f) (take n tile)
numbers_taken f tile n fits are = λ k d in_it.
    let short : k < n = omega (arith, length-take-le n tile fits, in_it) in
    subst (IsNumber f) (sym (get_or-take n tile k d short ∙ get_or_default tile k d 0 (omega (arith, short, fits)))) (are k short)

-- the pixels of a tile are numbers if the rectangle's are
pub numbers_within : (f : Format) (w h : ℕ) (numbers tile : List ℕ) (number tw th : ℕ) → number < tile_count w h → tw ≡ tile_width w number → th ≡ tile_height w h number
    → length numbers ≡ h * w → AreTileNumbers numbers w (tile_left w number) (tile_top w number) tw tile (tw * th)
    → All (IsNumber f) numbers → AreNumbersUpto f tile (tw * th)
numbers_within f w h numbers tile number tw th less tw_is th_is size are within = λ k short.
    let at : (tile_top w number + k / tw) * w + (tile_left w number + k % tw) < length numbers =
    rw size (index_inside w h number tw th k less tw_is th_is short) in
    subst (IsNumber f) (sym (are k short)) (within ((tile_top w number + k / tw) * w + (tile_left w number + k % tw)) 0 at)
