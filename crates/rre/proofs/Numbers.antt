-- Pixels as numbers, and their colours: numbers of pixels and their colours correspond one to one.
use Rattle.std.proofs.Common.{◌≡◌, ℕ, ◌+◌, ◌*◌, ◌<◌, ◌≤◌, ◌==◌, Bool, true, cond, inl, inr, List, [], ◌∷◌, length, refl, sym, ap, ◌∙◌, arith}
use Rattle.std.specs.Prelude.{All, count_by, not, ◌&&◌}
use Rattle.std.proofs.lemmas.Bool.{cases_Bool, and_from, and_parts, eq-eqb, eqb-true}
use Rattle.std.proofs.lemmas.List.{length-map}
use Rattle.std.proofs.lemmas.List.Elements.{All-head, All-tail, All-map, All-weaker}
use Rattle.std.proofs.lemmas.List.Sums.{sum_by-cons}
use Rattle.pixel_format.specs.declared.Color.{Color}
use Rattle.pixel_format.specs.Format.{Format}
use Rattle.pixel_format.specs.Pixel.{color_number, IsWithin}
use Rattle.pixel_format.specs.Number.{number_color, IsNumber, colors_of, times_in}
use Rattle.rre.specs.Encoded.{IsMajority, HasMany}
use Rattle.rre.specs.Frequent.{is_color, count_of, others_than}
use Rattle.rre.specs.Numbered.{others_in}

one_color : (one other : Color) → is_color one other ≡ true → one ≡ other
one_color one other h =
    let front = and_parts (one.r == other.r && one.g == other.g) (one.b == other.b) h in
    let pair = and_parts (one.r == other.r) (one.g == other.g) front.0 in
    ap (λ (n : ℕ). record { r = n; g = one.g; b = one.b }) (eqb-true one.r other.r pair.0)
    ∙ ap (λ (n : ℕ). record { r = other.r; g = n; b = one.b }) (eqb-true one.g other.g pair.1)
    ∙ ap (λ (n : ℕ). record { r = other.r; g = other.g; b = n }) (eqb-true one.b other.b front.1)

self_color : (color : Color) → is_color color color ≡ true
self_color c = and_from (c.r == c.r && c.g == c.g) (c.b == c.b) (and_from (c.r == c.r) (c.g == c.g) (eq-eqb c.r c.r refl) (eq-eqb c.g c.g refl)) (eq-eqb c.b c.b refl)

-- numbers of pixels of one colour are the same
one_number : (f : Format) (m n : ℕ) → IsNumber f m → IsNumber f n → number_color f m ≡ number_color f n → m ≡ n
one_number f m n first second same = sym first.is ∙ ap (color_number f) same ∙ second.is

-- comparing colours is comparing numbers
is_number : (f : Format) (m n : ℕ) → IsNumber f m → IsNumber f n → is_color (number_color f m) (number_color f n) ≡ (m == n)
is_number f m n first second = elim (cases_Bool (is_color (number_color f m) (number_color f n))) [
  | inl same ↦ same ∙ sym (eq-eqb m n (one_number f m n first second (one_color (number_color f m) (number_color f n) same)))
  | inr away ↦ elim (cases_Bool (m == n)) [
    | inl equal ↦
        let yes : is_color (number_color f m) (number_color f n) ≡ true = ap (λ z. is_color (number_color f m) (number_color f z)) (sym (eqb-true m n equal)) ∙ self_color (number_color f m) in
        yes ∙ sym equal
    | inr other ↦ away ∙ sym other
  ]
]

-- as many colours pass a test as numbers one that says the same
count_colors : (f : Format) (p : Color → Bool) (q : ℕ → Bool) (numbers : List ℕ) → ((m : ℕ) → IsNumber f m → p (number_color f m) ≡ q m) → All (IsNumber f) numbers
    → count_by p (colors_of f numbers) ≡ count_by q numbers
count_colors f p q [] same all = refl
count_colors f p q (m ∷ numbers) same all =
    sum_by-cons (λ (c : Color). cond (p c) 1 0) (number_color f m) (colors_of f numbers)
    ∙ ap (λ b. cond b 1 0 + count_by p (colors_of f numbers)) (same m (All-head (IsNumber f) m numbers all))
    ∙ ap (λ n. cond (q m) 1 0 + n) (count_colors f p q numbers same (All-tail (IsNumber f) m numbers all))
    ∙ sym (sum_by-cons (λ (n : ℕ). cond (q n) 1 0) m numbers)

-- a colour has as many pixels as its number
pub count_is : (f : Format) (n : ℕ) (numbers : List ℕ) → IsNumber f n → All (IsNumber f) numbers → count_of (number_color f n) (colors_of f numbers) ≡ times_in n numbers
count_is f n numbers is all = count_colors f (is_color (number_color f n)) (λ m. n == m) numbers (λ m here. is_number f n m is here) all

pub others_are : (f : Format) (n : ℕ) (numbers : List ℕ) → IsNumber f n → All (IsNumber f) numbers → others_than (number_color f n) (colors_of f numbers) ≡ others_in n numbers
others_are f n numbers is all = count_colors f (λ c. not (is_color (number_color f n) c)) (λ m. not (n == m)) numbers (λ m here. ap not (is_number f n m is here)) all

record Stands (f : Format) (color : Color) : Type 0 where
  number : ℕ
  is : IsNumber f number
  color_is : color ≡ number_color f number

-- a colour that stands somewhere is that of a number
some_number : (f : Format) (color : Color) (numbers : List ℕ) → 0 < count_of color (colors_of f numbers) → All (IsNumber f) numbers → Stands f color
some_number f color [] some all = absurd (omega arith)
some_number f color (m ∷ numbers) some all = elim (cases_Bool (is_color color (number_color f m))) [
  | inl here ↦ record { number = m; is = All-head (IsNumber f) m numbers all; color_is = one_color color (number_color f m) here }
  | inr away ↦
      let rest = sum_by-cons (λ (c : Color). cond (is_color color c) 1 0) (number_color f m) (colors_of f numbers) ∙ ap (λ b. cond b 1 0 + count_of color (colors_of f numbers)) away in
      some_number f color numbers (omega (arith, some, rest)) (All-tail (IsNumber f) m numbers all)
]

-- the number that more than half of the pixels have is that of the colour that they have
pub majority_color : (f : Format) (numbers : List ℕ) (n : ℕ) → All (IsNumber f) numbers → ((m : ℕ) → length numbers < 2 * times_in m numbers → m ≡ n)
    → IsMajority (colors_of f numbers) (number_color f n)
majority_color f numbers n all most color more =
    let size = length-map numbers (number_color f) in
    let stands = some_number f color numbers (omega (arith, more)) all in
    let same : count_of color (colors_of f numbers) ≡ times_in stands.number numbers = ap (λ c. count_of c (colors_of f numbers)) stands.color_is ∙ count_is f stands.number numbers stands.is all in
    stands.color_is ∙ ap (number_color f) (most stands.number (omega (arith, more, size, same)))

-- the colours of numbers of pixels are within the format
pub colors_within : (f : Format) (numbers : List ℕ) → All (IsNumber f) numbers → All (IsWithin f) (colors_of f numbers)
colors_within f numbers all =
    All-map (IsWithin f) (number_color f) numbers (All-weaker (IsNumber f) (λ n. IsWithin f (number_color f n)) (λ n is. is.within) numbers all)

-- at most so many parts as there are pixels of another number are few, and more are many
pub few_others : (f : Format) (n : ℕ) (numbers : List ℕ) (count : ℕ) → IsNumber f n → All (IsNumber f) numbers → count ≤ others_in n numbers
    → count ≤ others_than (number_color f n) (colors_of f numbers)
few_others f n numbers count is all few = omega (arith, few, others_are f n numbers is all)

pub many_others : (f : Format) (n : ℕ) (numbers : List ℕ) (most : ℕ) → IsNumber f n → All (IsNumber f) numbers → IsMajority (colors_of f numbers) (number_color f n)
    → most < others_in n numbers → HasMany (colors_of f numbers) most
many_others f n numbers most is all majority many = record {
  background = number_color f n;
  majority = majority;
  many = omega (arith, many, others_are f n numbers is all);
}
