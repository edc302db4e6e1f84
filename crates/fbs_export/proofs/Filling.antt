-- What a reader has put into a part of a buffer.
use Rattle.std.proofs.Common.{◌≡◌, ◌≤◌, ◌+◌, ℕ, List, ◌++◌, length, take, sym, ap, ◌∙◌, arith}
use Rattle.std.proofs.lemmas.List.{length-take}
use Rattle.std.proofs.Math.Seq.{take-append-add, take-take}

pub filled_part : (a : ℕ) (xs ys all : List ℕ) (n : ℕ) → take (a + length ys) all ≡ take a xs ++ ys → a ≤ length xs → n ≤ length ys → take (a + n) all ≡ take a xs ++ take n ys
filled_part a xs ys all n whole fits short =
    let front : length (take a xs) ≡ a = omega (arith, length-take a xs, fits) in
    sym (take-take (a + n) (a + length ys) all (omega (arith, short))) ∙ ap (take (a + n)) whole
    ∙ ap (λ z. take (z + n) (take a xs ++ ys)) (sym front) ∙ take-append-add (take a xs) ys n

pub first_part : (ys all : List ℕ) (n : ℕ) → take (length ys) all ≡ ys → n ≤ length ys → take n all ≡ take n ys
first_part ys all n whole short = sym (take-take n (length ys) all short) ∙ ap (take n) whole
