-- The number that more than half of the pixels have, by counting.
use Rattle.std.proofs.Common.{◌≡◌, ℕ, ◌+◌, ◌*◌, ◌<◌, ◌≤◌, ◌==◌, Bool, true, false, cond, List, [], ◌∷◌, length, get_or, refl, sym, ◌∙◌, arith}
use Rattle.std.proofs.lemmas.Bool.{eq-eqb, eqb-true}
use Rattle.std.proofs.lemmas.List.Sums.{sum_by-cons}
use Rattle.pixel_format.specs.Number.{times_in, HasMajority}

one_of_two : (c d x : ℕ) → (c ≡ d → ⊥) → (first second : Bool) → (c == x) ≡ first → (d == x) ≡ second → cond first 1 0 + cond second 1 0 ≤ 1
one_of_two c d x differ true true is also = absurd (differ (eqb-true c x is ∙ sym (eqb-true d x also)))
one_of_two c d x differ true false is also = omega arith
one_of_two c d x differ false true is also = omega arith
one_of_two c d x differ false false is also = omega arith

-- two numbers have no more pixels than there are
two_counts : (c d : ℕ) (numbers : List ℕ) → (c ≡ d → ⊥) → times_in c numbers + times_in d numbers ≤ length numbers
two_counts c d [] differ = omega arith
two_counts c d (x ∷ numbers) differ =
    let one = sum_by-cons (λ y. cond (c == y) 1 0) x numbers in
    let other = sum_by-cons (λ y. cond (d == y) 1 0) x numbers in
    omega (arith, one_of_two c d x differ (c == x) (d == x) refl refl, two_counts c d numbers differ)

different : (c d : ℕ) → (c == d) ≡ false → c ≡ d → ⊥
different c d away same =
    let yes : (c == d) ≡ true = rw same (eq-eqb d d refl) in
    cc

majority_at : (numbers : List ℕ) (index : ℕ) → ((number : ℕ) → times_in number numbers ≤ times_in (get_or numbers index 0) numbers)
    → (number : ℕ) (test : Bool) → (number == get_or numbers index 0) ≡ test → length numbers < 2 * times_in number numbers → number ≡ get_or numbers index 0
majority_at numbers index best number true is most = eqb-true number (get_or numbers index 0) is
majority_at numbers index best number false is most =
    absurd (omega (arith, two_counts number (get_or numbers index 0) numbers (different number (get_or numbers index 0) is), best number))

pub counted_majority : (numbers : List ℕ) (index : ℕ) → ((number : ℕ) → times_in number numbers ≤ times_in (get_or numbers index 0) numbers) → HasMajority numbers index
counted_majority numbers index best number most = majority_at numbers index best number (number == get_or numbers index 0) refl most
