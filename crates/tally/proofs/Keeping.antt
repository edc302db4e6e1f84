-- Each step keeps that there are two copies at most, which are alike.
use Rattle.std.proofs.Common.{◌≡◌, ℕ, zero, suc, ◌+◌, ◌%◌, ◌^◌, ◌≤◌, ◌==◌, if◌then◌else◌, List, [], ◌∷◌, ◌++◌, map, length, set, take, drop, refl, sym, ap, ◌∙◌, arith}
use mathlib.Core.Option.{some, some-ne-none, some-injective}
use lib.ListN.{get_elem?}
use Rattle.std.proofs.lemmas.Bool.Decides.{nat_tests}
use Rattle.atomic_table.specs.Table.{State, Me, Allows, Splits, Joins, keeps}
use Rattle.tally.specs.declared.tally.Copies.{Copies}
use Rattle.tally.specs.Copies.{unlike, measured, holder, twice, AreAlike, Raised}

-- the rule of the table
abbrev pub ruled : State (Unit {0}) Copies → Type 0
ruled table = AreAlike table.views

measured_set : (f : List ℕ → ℕ) (views : List Copies) (by : ℕ) (v w : Copies) → get_elem? views by ≡ some v → measured f (set views by w) + f v.numbers ≡ measured f views + f w.numbers
measured_set f [] by v w at = absurd (some-ne-none v (sym at))
measured_set f (u ∷ views) zero v w at = let same : u ≡ v = some-injective _ _ at in let t : f u.numbers ≡ f v.numbers = ap (λ h. f h.numbers) same in omega (arith, t)
measured_set f (u ∷ views) (suc by) v w at = omega (arith, measured_set f views by v w at)

measured_snoc : (f : List ℕ → ℕ) (views : List Copies) (v : Copies) → measured f (views ++ v ∷ []) ≡ measured f views + f v.numbers
measured_snoc f [] v = omega arith
measured_snoc f (u ∷ views) v = omega (arith, measured_snoc f views v)

-- what a seat holds is a part of what all hold
part_of : (f : List ℕ → ℕ) (views : List Copies) (by : ℕ) (v : Copies) → get_elem? views by ≡ some v → f v.numbers ≤ measured f views
part_of f [] by v at = absurd (some-ne-none v (sym at))
part_of f (u ∷ views) zero v at = let same : u ≡ v = some-injective _ _ at in let t : f u.numbers ≡ f v.numbers = ap (λ h. f h.numbers) same in omega (arith, t)
part_of f (u ∷ views) (suc by) v at = omega (arith, part_of f views by v at)

pub unlike-append : (n : ℕ) (xs ys : List ℕ) → unlike n (xs ++ ys) ≡ unlike n xs + unlike n ys
unlike-append n [] ys = omega arith
unlike-append n (x ∷ xs) ys = omega (arith, unlike-append n xs ys)

pub length_both : (xs ys : List ℕ) → length (xs ++ ys) ≡ length xs + length ys
length_both [] ys = omega arith
length_both (x ∷ xs) ys = omega (arith, length_both xs ys)

pub unlike_cut : (n k : ℕ) (xs : List ℕ) → unlike n xs ≡ unlike n (take k xs) + unlike n (drop k xs)
unlike_cut n zero xs = omega arith
unlike_cut n (suc k) [] = omega arith
unlike_cut n (suc k) (x ∷ xs) = omega (arith, unlike_cut n k xs)

pub length_cut : (k : ℕ) (xs : List ℕ) → length xs ≡ length (take k xs) + length (drop k xs)
length_cut zero xs = omega arith
length_cut (suc k) [] = omega arith
length_cut (suc k) (x ∷ xs) = omega (arith, length_cut k xs)

one_at_most : (x n : ℕ) → (if x == n then 0 else 1) ≤ 1
one_at_most x n = grind (arith, nat_tests)

unlike_within : (n : ℕ) (xs : List ℕ) → unlike n xs ≤ length xs
unlike_within n [] = omega arith
unlike_within n (x ∷ xs) = omega (arith, one_at_most x n, unlike_within n xs)

all_within : (n : ℕ) (views : List Copies) → measured (unlike n) views ≤ measured length views
all_within n [] = omega arith
all_within n (v ∷ views) = omega (arith, unlike_within n v.numbers, all_within n views)

-- beside one seat's, no more copies differ than there are
others_within : (n : ℕ) (views : List Copies) (by : ℕ) (v : Copies) → get_elem? views by ≡ some v → measured (unlike n) views + length v.numbers ≤ measured length views + unlike n v.numbers
others_within n [] by v at = absurd (some-ne-none v (sym at))
others_within n (u ∷ views) zero v at =
    let same : u ≡ v = some-injective _ _ at in
    let t : unlike n u.numbers ≡ unlike n v.numbers = ap (λ h. unlike n h.numbers) same in
    let l : length u.numbers ≡ length v.numbers = ap (λ h. length h.numbers) same in
    omega (arith, t, l, all_within n views)
others_within n (u ∷ views) (suc by) v at = omega (arith, unlike_within n u.numbers, others_within n views by v at)

shifted : (x n k : ℕ) → ◌≡◌ {A = ℕ} (if x + k == n + k then 0 else 1) (if x == n then 0 else 1)
shifted x n k = grind (arith, nat_tests)

unlike_raised : (n k : ℕ) (xs : List ℕ) → unlike (n + k) (map (λ x. x + k) xs) ≡ unlike n xs
unlike_raised n k [] = refl
unlike_raised n k (x ∷ xs) = omega (arith, shifted x n k, unlike_raised n k xs)

length_raised : (k : ℕ) (xs : List ℕ) → length (map (λ x. x + k) xs) ≡ length xs
length_raised k [] = refl
length_raised k (x ∷ xs) = omega (arith, length_raised k xs)

pub begins : AreAlike (twice 0 ∷ [])
begins = record { number = 0; alike = refl; few = omega arith }

-- a seat gives away a part
pub parts : (by : ℕ) (ns xs ys : List ℕ) → ((n : ℕ) → unlike n ns ≡ unlike n xs + unlike n ys) → length ns ≡ length xs + length ys → Splits ruled by (holder ns) (holder xs) (holder ys)
parts by ns xs ys cut long table h at =
    let views = table.views in
    let left = holder xs in
    let right = holder ys in
    let after = set views by left in
    let sum : (f : List ℕ → ℕ) → f ns ≡ f xs + f ys → measured f (after ++ right ∷ []) ≡ measured f views = λ f e. (let a = measured_set f views by (holder ns) left at in let b = measured_snoc f after right in omega (arith, a, b, e)) in
    record {
      number = h.number;
      alike = sum (unlike h.number) (cut h.number) ∙ h.alike;
      few = omega (arith, sum length long, h.few);
    }

-- a seat takes in what another holds
pub takes_in : (by : ℕ) (ns : List ℕ) (other : ℕ) (ms : List ℕ) → Joins ruled by (holder ns) other (holder ms) (holder (ns ++ ms)) (holder [])
takes_in by ns other ms table h at apart there =
    let views = table.views in
    let both = holder (ns ++ ms) in
    let mid = set views by both in
    let after = set mid other (holder []) in
    let sum : (f : List ℕ → ℕ) → f (ns ++ ms) ≡ f ns + f ms → f [] ≡ 0 → measured f after ≡ measured f views = λ f e z. (let a = measured_set f views by (holder ns) both at in let b = measured_set f mid other (holder ms) (holder []) there in omega (arith, a, b, e, z)) in
    record {
      number = h.number;
      alike = sum (unlike h.number) (unlike-append h.number ns ms) refl ∙ h.alike;
      few = omega (arith, sum length (length_both ns ms) refl, h.few);
    }

-- the seat that holds both adds to both
pub raises : (slots id k : ℕ) (me : Me (Unit {0}) Copies) → length me.0.numbers ≡ 2 → Allows ruled slots id me 0 (λ n. (n + k) % 2 ^ 64) (λ found after. Raised k me after)
raises slots id k me two table h counted at small =
    let ns = me.0.numbers in
    let views = table.views in
    let w = holder (map (λ n. n + k) ns) in
    let next = h.number + k in
    let mine : unlike h.number ns ≡ 0 = omega (arith, part_of (unlike h.number) views id me.0 at, h.alike) in
    let moved = measured_set (unlike next) views id me.0 w at in
    let longs = measured_set length views id me.0 w at in
    let alone = others_within next views id me.0 at in (
      w,
      keeps,
      tt,
      record {
        number = next;
        alike = omega (arith, moved, alone, h.few, two, unlike_raised h.number k ns, mine);
        few = omega (arith, longs, length_raised k ns, h.few);
      },
      record { number = h.number; alike = mine; added = refl },
    )

-- the moves, at a view that is known
pub parts_as : (by : ℕ) (ns xs ys : List ℕ) (v left right : Copies) → v ≡ holder ns → left ≡ holder xs → right ≡ holder ys → ((n : ℕ) → unlike n ns ≡ unlike n xs + unlike n ys) → length ns ≡ length xs + length ys → Splits ruled by v left right
parts_as by ns xs ys v left right is l r cut long = rw (is, l, r) (parts by ns xs ys cut long)

pub takes_in_as : (by : ℕ) (ns : List ℕ) (other : ℕ) (ms : List ℕ) (v u both : Copies) → v ≡ holder ns → u ≡ holder ms → both ≡ holder (ns ++ ms) → Joins ruled by v other u both (holder [])
takes_in_as by ns other ms v u both is is' b = rw (is, is', b) (takes_in by ns other ms)

-- two copies of one seat that are alike, with so much added
pub both_raised : (a b k number : ℕ) → unlike number (a ∷ b ∷ []) ≡ 0 → a ≡ b
both_raised a b k number alike = grind (arith, nat_tests)
