-- The copies of a number, of which there are two.
use Rattle.std.specs.Prelude.{◌≡◌, ◌==◌, ◌+◌, ◌≤◌, if◌then◌else◌, ℕ, List, [], ◌∷◌, ◌++◌, take, drop, map, length}
use Rattle.atomic_table.specs.Table.{Me}
use Rattle.tally.specs.declared.tally.Copies.{Copies}

-- how many of these numbers are another than n
abbrev pub unlike : ℕ → List ℕ → ℕ
unlike n [] = 0
unlike n (x ∷ xs) = (if x == n then 0 else 1) + unlike n xs

-- the numbers of all seats, each list measured by f
abbrev pub measured : (List ℕ → ℕ) → List Copies → ℕ
measured f [] = 0
measured f (v ∷ vs) = f v.numbers + measured f vs

-- a seat that holds these copies
abbrev pub holder : List ℕ → Copies
holder numbers = record { numbers = numbers }

abbrev pub IsHolder : Copies → Type 0
IsHolder v = v ≡ holder v.numbers

-- both copies of n
abbrev pub twice : ℕ → Copies
twice n = holder (n ∷ n ∷ [])

-- the first of its copies, and the others
abbrev pub first_of : Copies → Copies
first_of v = holder (take 1 v.numbers)

abbrev pub others_of : Copies → Copies
others_of v = holder (drop 1 v.numbers)

-- nothing that it holds, and all
abbrev pub none_of : Copies → Copies
none_of v = holder []

abbrev pub all_of : Copies → Copies
all_of v = holder v.numbers

abbrev pub both_of : Copies → Copies → Copies
both_of v w = holder (v.numbers ++ w.numbers)

-- There are two copies at most, each of the one number.
pub record AreAlike (views : List Copies) : Type 0 where
  pub number : ℕ
  pub alike : measured (unlike number) views ≡ 0
  pub few : measured length views ≤ 2

-- Each copy was of one number, and has so much added.
pub record Raised (count : ℕ) (v w : Me (Unit {0}) Copies) : Type 0 where
  pub number : ℕ
  pub alike : unlike number v.0.numbers ≡ 0
  pub added : w.0 ≡ holder (map (λ n. n + count) v.0.numbers)
