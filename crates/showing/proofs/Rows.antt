-- Just one row of the table applies, and what is done next says which.
use Rattle.std.proofs.Common.{◌≡◌, ℕ, ◌⊎◌, Bool, true, false, not, ◌&&◌, ◌||◌, List, [], ◌∷◌, refl, inl, inr, arith}
use Rattle.std.proofs.lemmas.Bool.Decides.{nat_tests}
use Rattle.showing.specs.declared.begins.Begins.{Begins}
use Rattle.showing.specs.declared.begins.Begins.TheVariants.{Live, After}
use Rattle.showing.specs.declared.situation.Situation.{Situation}
use Rattle.showing.specs.declared.next.Next.TheVariants.{Want, Wait, WaitUntilAsked, HoldBack, Newest, Rest, Stop}
use Rattle.showing.specs.Table.{Row, applying, table, most, is_over, stands_before_start, is_owed, may_go_on, leaps, is_far, has_more, is_coming, is_shown_each, is_live, coming_by}

-- a viewer comes, is shown each message, or is a live one
abbrev Parts : Bool → Bool → Bool → Type 0
Parts coming each live = ((coming ≡ true) × (each ≡ false) × (live ≡ false)) ⊎ (((coming ≡ false) × (each ≡ true) × (live ≡ false)) ⊎ ((coming ≡ false) × (each ≡ false) × (live ≡ true)))

in_one_part : (begins : Begins) (position : ℕ) (s : Situation) → s.begins ≡ begins → s.position ≡ position → Parts (is_coming s) (is_shown_each s) (is_live s)
in_one_part Live position s b p = grind (arith, nat_tests)
in_one_part (After from each_until) position s b p = grind (arith, nat_tests)

-- with each test of a situation as it may be
abbrev rows_at : (all over failed fresh before owed may leap far more coming each live : Bool) → ℕ → List Row
rows_at all over failed fresh before owed may leap far more coming each live l =
    let served = not all && (not over && not failed) in
    let onward = served && (not fresh && (not owed || may)) in
    let takes = onward && (not leap && more) in
    record { applies = all; next = Rest }
    ∷ record { applies = not all && over; next = Stop }
    ∷ record { applies = not all && (not over && failed); next = Newest }
    ∷ record { applies = (served && fresh) && not before; next = Newest }
    ∷ record { applies = (served && fresh) && before; next = Want 0 }
    ∷ record { applies = served && (not fresh && (owed && not may)); next = WaitUntilAsked }
    ∷ record { applies = onward && (leap && (far || may)); next = Newest }
    ∷ record { applies = onward && (leap && not (far || may)); next = HoldBack }
    ∷ record { applies = takes && coming; next = Want l }
    ∷ record { applies = takes && each; next = Want 1 }
    ∷ record { applies = takes && live; next = Want most }
    ∷ record { applies = onward && (not leap && not more); next = Wait }
    ∷ []

one_at : (all over failed fresh before owed may leap far more coming each live : Bool) (l : ℕ) → Parts coming each live
    → applying (rows_at all over failed fresh before owed may leap far more coming each live l) ≡ 1
one_at true over failed fresh before owed may leap far more coming each live l parts = refl
one_at false true failed fresh before owed may leap far more coming each live l parts = refl
one_at false false true fresh before owed may leap far more coming each live l parts = refl
one_at false false false true true owed may leap far more coming each live l parts = refl
one_at false false false true false owed may leap far more coming each live l parts = refl
one_at false false false false before true false leap far more coming each live l parts = refl
one_at false false false false before true true true true more coming each live l parts = refl
one_at false false false false before true true true false more coming each live l parts = refl
one_at false false false false before true true false far false coming each live l parts = refl
one_at false false false false before true true false far true coming each live l (inl p) = rw (p.0, p.1, p.2) refl
one_at false false false false before true true false far true coming each live l (inr (inl p)) = rw (p.0, p.1, p.2) refl
one_at false false false false before true true false far true coming each live l (inr (inr p)) = rw (p.0, p.1, p.2) refl
one_at false false false false before false may true true more coming each live l parts = refl
one_at false false false false before false true true false more coming each live l parts = refl
one_at false false false false before false false true false more coming each live l parts = refl
one_at false false false false before false may false far false coming each live l parts = refl
one_at false false false false before false may false far true coming each live l (inl p) = rw (p.0, p.1, p.2) refl
one_at false false false false before false may false far true coming each live l (inr (inl p)) = rw (p.0, p.1, p.2) refl
one_at false false false false before false may false far true coming each live l (inr (inr p)) = rw (p.0, p.1, p.2) refl

pub one_row : (s : Situation) → applying (table s) ≡ 1
one_row s = one_at s.is_at_end (is_over s) s.has_failed s.is_fresh (stands_before_start s) (is_owed s) (may_go_on s) (leaps s) (is_far s) (has_more s)
    (is_coming s) (is_shown_each s) (is_live s) (coming_by s) (in_one_part s.begins s.position s refl refl)
