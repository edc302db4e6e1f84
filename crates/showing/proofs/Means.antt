-- What the rows of the table mean for one that begins after some messages.
use Rattle.std.proofs.Common.{◌≡◌, ℕ, ◌⊎◌, true, false, sym, ◌∙◌, inl, inr, ◌≤◌, ◌<◌, min, ◌-◌, arith}
use Rattle.std.proofs.lemmas.Bool.{and_parts}
use Rattle.std.proofs.lemmas.Bool.Decides.{nat_tests}
use Rattle.showing.specs.declared.begins.Begins.TheVariants.{After}
use Rattle.showing.specs.declared.situation.Situation.{Situation}
use Rattle.showing.specs.Table.{comes_on, takes_one, coming_by, most, is_owed, may_go_on, is_live, leaps, goes_on, takes_more, has_more, is_over, stands_before_start, is_coming, is_shown_each}

abbrev pub HasScreen : Situation → Type 0
HasScreen s = (s.is_at_end ≡ false) × (is_over s ≡ false) × (s.has_failed ≡ false) × (s.is_fresh ≡ false)

pub going : (s : Situation) → goes_on s ≡ true → HasScreen s × ((is_owed s ≡ false) ⊎ (may_go_on s ≡ true))
going s e = grind arith

pub taking : (s : Situation) → takes_more s ≡ true → HasScreen s × ((is_owed s ≡ false) ⊎ (may_go_on s ≡ true)) × (leaps s ≡ false) × (has_more s ≡ true)
taking s e = grind arith

coming_before : (n u : ℕ) (s : Situation) → s.begins ≡ After n u → is_coming s ≡ true → s.position < n
coming_before n u s b e = grind (arith, nat_tests)

coming_steps : (n u : ℕ) (s : Situation) → s.begins ≡ After n u → coming_by s ≡ min (n - s.position) most
coming_steps n u s b = grind arith

pub coming_means : (n u : ℕ) (s : Situation) → s.begins ≡ After n u → comes_on s ≡ true → (s.is_fresh ≡ false) × (s.position < n) × (coming_by s ≡ min (n - s.position) most)
coming_means n u s b e =
    let parts = and_parts (takes_more s) (is_coming s) e in
    ((taking s parts.0).0.3, coming_before n u s b parts.1, coming_steps n u s b)

pub owed_there : (n u : ℕ) (s : Situation) → s.begins ≡ After n u → n ≤ s.position → s.position ≤ u → is_owed s ≡ true
owed_there n u s b e l = grind (arith, nat_tests)

each_within : (n u : ℕ) (s : Situation) → s.begins ≡ After n u → is_shown_each s ≡ true → (n ≤ s.position) × (s.position < u)
each_within n u s b e = grind (arith, nat_tests)

one_owed : (s : Situation) → is_owed s ≡ true → (is_owed s ≡ false) ⊎ (may_go_on s ≡ true) → may_go_on s ≡ true
one_owed s e (inl none) = let contrary : true ≡ false = sym e ∙ none in cc
one_owed s e (inr may) = may

pub one_means : (n u : ℕ) (s : Situation) → s.begins ≡ After n u → takes_one s ≡ true → (s.is_fresh ≡ false) × (may_go_on s ≡ true) × (n ≤ s.position) × (s.position < u)
one_means n u s b e =
    let parts = and_parts (takes_more s) (is_shown_each s) e in
    let taken = taking s parts.0 in
    let within = each_within n u s b parts.1 in
    (taken.0.3, one_owed s (owed_there n u s b within.0 (omega arith)) taken.1, within.0, within.1)

pub live_means : (n u : ℕ) (s : Situation) → s.begins ≡ After n u → is_live s ≡ true → (n ≤ s.position) × (u ≤ s.position)
live_means n u s b e = grind (arith, nat_tests)

pub before_means : (n u : ℕ) (s : Situation) → s.begins ≡ After n u → stands_before_start s ≡ false → n < s.position
before_means n u s b e = grind (arith, nat_tests)
