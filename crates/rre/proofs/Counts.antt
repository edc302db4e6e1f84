-- What is counted in a list of counts.
use Rattle.std.proofs.Common.{◌≡◌, ℕ, zero, suc, ◌+◌, ◌<◌, ◌==◌, Bool, true, false, cond, List, [], ◌∷◌, ◌++◌, length, take, drop, get_or, slice_set, refl, sym, ap, subst, arith}
use Rattle.std.proofs.lemmas.Bool.{eq-eqb, eqb-true}
use Rattle.rre.specs.declared.cover.Count.{Count}
use Rattle.rre.specs.Numbered.{counted, IsFirstOf, IsNew}

-- ---- finding

pub unequal : (a b : ℕ) → (a ≡ b → ⊥) → (b == a) ≡ false
unequal a b not = split (b == a) refl where
  split : (test : Bool) → (b == a) ≡ test → (b == a) ≡ false
  split true e = absurd (not (sym (eqb-true b a e)))
  split false e = e

-- the first of those that are left
pub found_here : (cs : List Count) (i number : ℕ) (d : Count) → i < length cs → number ≡ (get_or cs i d).number → IsFirstOf (drop i cs) number 0
found_here [] i number d within is = absurd (omega (arith, within))
found_here (c ∷ cs) zero number d within is = is
found_here (c ∷ cs) (suc i) number d within is = found_here cs i number d (omega (arith, within)) is

first_on : (cs : List Count) (i number j : ℕ) (d : Count) → i < length cs → (number == (get_or cs i d).number) ≡ false → IsFirstOf (drop (suc i) cs) number j → IsFirstOf (drop i cs) number (suc j)
first_on [] i number j d within other first = absurd (omega (arith, within))
first_on (c ∷ cs) zero number j d within other first = (other, first)
first_on (c ∷ cs) (suc i) number j d within other first = first_on cs i number j d (omega (arith, within)) other first

pub first_on_by_one : (cs : List Count) (i number j : ℕ) (d : Count) → i < length cs → (number == (get_or cs i d).number) ≡ false → IsFirstOf (drop (i + 1) cs) number j → IsFirstOf (drop i cs) number (suc j)
first_on_by_one cs i number j d within other first =
    let next : i + 1 ≡ suc i = omega arith in
    first_on cs i number j d within other (subst (λ (n : ℕ). IsFirstOf (drop n cs) number j) next first)

new_on : (cs : List Count) (i number : ℕ) (d : Count) → i < length cs → (number == (get_or cs i d).number) ≡ false → IsNew (drop (suc i) cs) number → IsNew (drop i cs) number
new_on [] i number d within other new = absurd (omega (arith, within))
new_on (c ∷ cs) zero number d within other new = (other, new)
new_on (c ∷ cs) (suc i) number d within other new = new_on cs i number d (omega (arith, within)) other new

pub new_on_by_one : (cs : List Count) (i number : ℕ) (d : Count) → i < length cs → (number == (get_or cs i d).number) ≡ false → IsNew (drop (i + 1) cs) number → IsNew (drop i cs) number
new_on_by_one cs i number d within other new =
    let next : i + 1 ≡ suc i = omega arith in
    new_on cs i number d within other (subst (λ (n : ℕ). IsNew (drop n cs) number) next new)

-- ---- counting

-- a new number isn't counted
pub new_counted : (cs : List Count) (number : ℕ) → IsNew cs number → counted cs number ≡ 0
new_counted [] number new = refl
new_counted (c ∷ cs) number new = rw new.0 (new_counted cs number new.1)

-- two numbers are apart if one equals what the other doesn't
apart : (one other number : ℕ) → (one == number) ≡ true → (other == number) ≡ false → (one == other) ≡ false
apart one other number is isn't = split (one == other) refl where
  split : (test : Bool) → (one == other) ≡ test → (one == other) ≡ false
  split true e = absurd (let f : (other == number) ≡ true = subst (λ (n : ℕ). (n == number) ≡ true) (eqb-true one other e) is in cc (f, isn't))
  split false e = e

-- and is counted once it is added
pub added : (cs : List Count) (number more other : ℕ) → IsNew cs number
    → counted (cs ++ record { number = number; times = more } ∷ []) other ≡ cond (other == number) more (counted cs other)
added [] number more other new = refl
added (c ∷ cs) number more other new = split (added cs number more other new.1) (other == c.number) refl where
  split : counted (cs ++ record { number = number; times = more } ∷ []) other ≡ cond (other == number) more (counted cs other) → (test : Bool) → (other == c.number) ≡ test
      → counted ((c ∷ cs) ++ record { number = number; times = more } ∷ []) other ≡ cond (other == number) more (counted (c ∷ cs) other)
  split rest true is = rw (is, apart other number c.number is new.0) refl
  split rest false is = rw is rest

-- the first count of a number counts it
pub first_counted : (cs : List Count) (number index : ℕ) (d : Count) → IsFirstOf cs number index → counted cs number ≡ (get_or cs index d).times
first_counted [] number index d first = absurd (first)
first_counted (c ∷ cs) number zero d first = rw (eq-eqb number c.number first) refl
first_counted (c ∷ cs) number (suc index) d first = rw first.0 (first_counted cs number index d first.1)

-- it is counted so often once that is set
pub set_counted : (cs : List Count) (number index times other : ℕ) (d : Count) → IsFirstOf cs number index
    → counted (slice_set cs index (record { number = (get_or cs index d).number; times = times })) other ≡ cond (other == number) times (counted cs other)
set_counted [] number index times other d first = absurd (first)
set_counted (c ∷ cs) number zero times other d first = split (other == c.number) refl where
  split : (test : Bool) → (other == c.number) ≡ test
      → counted (record { number = c.number; times = times } ∷ cs) other ≡ cond (other == number) times (counted (c ∷ cs) other)
  split true is = rw (first, is) refl
  split false is = rw (first, is) refl
set_counted (c ∷ cs) number (suc index) times other d first = split (set_counted cs number index times other d first.1) (other == c.number) refl where
  split : counted (slice_set cs index (record { number = (get_or cs index d).number; times = times })) other ≡ cond (other == number) times (counted cs other) → (test : Bool) → (other == c.number) ≡ test
      → counted (c ∷ slice_set cs index (record { number = (get_or cs index d).number; times = times })) other ≡ cond (other == number) times (counted (c ∷ cs) other)
  split rest true is = rw (is, apart other number c.number is first.0) refl
  split rest false is = rw is rest

-- ---- lists that are written whole

pub set_there : (cs : List Count) (i : ℕ) (c d : Count) → i < length cs → get_or (slice_set cs i c) i d ≡ c
set_there [] i c d within = absurd (omega (arith, within))
set_there (b ∷ cs) zero c d within = refl
set_there (b ∷ cs) (suc i) c d within = set_there cs i c d (omega (arith, within))

self : (cs : List Count) → take (length cs) (cs ++ drop (length cs) cs) ≡ cs
self [] = refl
self (c ∷ cs) = ap (λ (l : List Count). c ∷ l) (self cs)

pub written : (cs : List Count) (i : ℕ) (c : Count) → take (length cs) (slice_set cs i c ++ drop (length (slice_set cs i c)) cs) ≡ slice_set cs i c
written [] i c = refl
written (b ∷ cs) zero c = ap (λ (l : List Count). c ∷ l) (self cs)
written (b ∷ cs) (suc i) c = ap (λ (l : List Count). b ∷ l) (written cs i c)
