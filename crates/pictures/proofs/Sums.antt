-- The sums of Adler-32, byte by byte.
use Rattle.std.proofs.Common.{◌≡◌, ℕ, ◌+◌, ◌%◌, List, [], ◌∷◌, ◌++◌, sym, ap, ◌∙◌, arith}
use Rattle.std.specs.List.{sum}
use Rattle.std.proofs.lemmas.List.Sums.{sum_by-cons, sum_by_push}
use Rattle.std.proofs.Math.Nat.{add-mod, mod-add-mod}
use Rattle.pictures.specs.Checksums.{sum_of_sums, first_sum, second_sum}

sum_of_sums_push : (s : ℕ) (xs : List ℕ) (x : ℕ) → sum_of_sums s (xs ++ x ∷ []) ≡ sum_of_sums s xs + (s + sum xs + x)
unfolding sum_of_sums
sum_of_sums_push s [] x = omega arith
sum_of_sums_push s (y ∷ ys) x = omega (arith, sum_of_sums_push (s + y) ys x, sum_by-cons (λ z. z) y ys)

pub first_sum_push : (xs : List ℕ) (x : ℕ) → first_sum (xs ++ x ∷ []) ≡ (first_sum xs + x) % 65521
first_sum_push xs x =
    let more : 1 + sum (xs ++ x ∷ []) ≡ (1 + sum xs) + x = omega (arith, sum_by_push (λ z. z) xs x) in
    ap (λ n. n % 65521) more ∙ sym (mod-add-mod (1 + sum xs) 65521 x)

pub second_sum_push : (xs : List ℕ) (x : ℕ) → second_sum (xs ++ x ∷ []) ≡ (second_sum xs + first_sum (xs ++ x ∷ [])) % 65521
second_sum_push xs x =
    let more : sum_of_sums 1 (xs ++ x ∷ []) ≡ sum_of_sums 1 xs + (1 + sum (xs ++ x ∷ [])) = omega (arith, sum_of_sums_push 1 xs x, sum_by_push (λ z. z) xs x) in
    ap (λ n. n % 65521) more ∙ add-mod (sum_of_sums 1 xs) (1 + sum (xs ++ x ∷ [])) 65521
