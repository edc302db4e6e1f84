-- Appending the numbers of an area's pixels.
use Rattle.std.proofs.Common.{◌≡◌, ℕ, ◌+◌, ◌-◌, ◌<◌, List, [], ◌++◌, length, get_or, map, set, cond, inl, inr, refl, sym, ap, subst, ◌∙◌, arith, length-append}
use Rattle.std.specs.Prelude.{All, Result, Ok, Err, OnOk, is_ok}
use Rattle.std.proofs.lemmas.Bool.{cases_lt, cases_eq}
use Rattle.std.proofs.lemmas.List.{get_or-map, length-map, map-append, get_or-append-add, get_or-set_same, get_or-set_other, get_or_default, ext_get_or}
use Rattle.std.proofs.Math.ListN.{get_or-append}
use Rattle.pixel_format.specs.declared.Color.{Color}
use Rattle.pixel_format.specs.Format.{Format}
use Rattle.pixel_format.specs.Canvas.{black, nth}
use Rattle.pixel_format.specs.Number.{number_color, IsNumber}
use Rattle.pixel_format.specs.Pixel.{converted}
use Rattle.terms.specs.Appending.{Appends}
use Rattle.terms.proofs.Progress.{Joins, joins_mapped}
use Rattle.painter.specs.declared.pixel.Pixel.{Pixel}
use Rattle.painter.specs.Pixels.{color_of}
use Rattle.painter.specs.Sent.{seen_colors}
use Rattle.painter.specs.Numbered.{AreNumbersOf, HasNumber}

-- one number more of a row
pub number_more : (f : Format) (colors : List Color) (numbers : List ℕ) (k n : ℕ) (color : Color) → k < length numbers
    → ((j : ℕ) → j < k → HasNumber f (nth colors j) (get_or numbers j 0)) → number_color f n ≡ color → color ≡ nth colors k → IsNumber f n
    → (j : ℕ) → j < k + 1 → HasNumber f (nth colors j) (get_or (set numbers k n) j 0)
number_more f colors numbers k n color fits done back here is j near = elim (cases_eq j k) [
  | inl same ↦ subst (λ (m : ℕ). HasNumber f (nth colors j) m) (sym (ap (λ m. get_or (set numbers k n) m 0) same ∙ get_or-set_same numbers k n 0 fits))
      (record { color_is = back ∙ here ∙ ap (nth colors) (sym same); is = is })
  | inr other ↦ subst (λ (m : ℕ). HasNumber f (nth colors j) m) (sym (get_or-set_other numbers k j n 0 other)) (done j (omega (arith, other)))
]

-- the numbers of a whole row
pub numbers_are : (f : Format) (colors : List Color) (numbers : List ℕ) → length numbers ≡ length colors → ((k : ℕ) → k < length colors → HasNumber f (nth colors k) (get_or numbers k 0))
    → AreNumbersOf f colors numbers
numbers_are f colors numbers long each = record {
  colors_are = ext_get_or black (map (number_color f) numbers) colors (length-map numbers (number_color f) ∙ long) (λ k less.
      let inside : k < length numbers = omega (arith, less, length-map numbers (number_color f)) in
      get_or-map (number_color f) numbers k 0 black inside ∙ (each k (omega (arith, inside, long))).color_is);
  each = λ k d less. subst (IsNumber f) (get_or_default numbers k 0 d less) (each k (omega (arith, less, long))).is;
}

all_joined : (f : Format) (a b : List ℕ) → All (IsNumber f) a → All (IsNumber f) b → All (IsNumber f) (a ++ b)
all_joined f a b first second k d less = elim (cases_lt k (length a)) [
  | inl below ↦ subst (IsNumber f) (sym (get_or-append a b d k below)) (first k d below)
  | inr following ↦
      let at : length a + (k - length a) ≡ k = omega arith in
      subst (IsNumber f) (sym (get_or-append-add a b (k - length a) d) ∙ ap (λ (n : ℕ). get_or (a ++ b) n d) at) (second (k - length a) d (omega (arith, less, length-append a b, following)))
]

-- numbers of some colours, and after them those of others
pub numbers_join : (f : Format) → Joins (AreNumbersOf f)
numbers_join f a b p q first second = record {
  colors_are = map-append (number_color f) p q ∙ ap (λ z. z ++ map (number_color f) q) first.colors_are ∙ ap (λ z. a ++ z) second.colors_are;
  each = all_joined f p q first.each second.each;
}

pub no_numbers : (f : Format) → AreNumbersOf f [] []
no_numbers f = record { colors_are = refl; each = λ k d less. absurd (omega arith) }

-- the numbers of a row's pixels
abbrev pub AreRowNumbers : Format → List Pixel → List ℕ → Type 0
AreRowNumbers f row = AreNumbersOf f (seen_colors f row)

pub row_numbers_join : (f : Format) → Joins (AreRowNumbers f)
row_numbers_join f = joins_mapped (λ p. converted f (color_of p)) (AreNumbersOf f) (numbers_join f)

-- what was appended, if it was
pub ok_appended : {T E : Type 0} (r : Result T E) (P : List ℕ → Type 0) (old new more : List ℕ) → new ≡ cond (is_ok r) (old ++ more) old → P more → OnOk r (Appends P old new)
ok_appended (Ok x) P old new more is has = record { bytes = more; is = is; are = has }
ok_appended (Err e) P old new more is has = tt
