-- What is waited for.
use Rattle.std.proofs.Common.{◌≡◌, ◌≢◌, ℕ, ◌⊎◌, Bool, true, false, not, ◌&&◌, ◌||◌, refl, sym, ap, ◌∙◌, subst, inl, inr, ◌≤◌, ◌<◌, nat_lt, arith}
use Rattle.std.specs.Prelude.{if◌then◌else◌}
use Rattle.std.proofs.lemmas.Bool.{and_parts}
use Rattle.std.proofs.lemmas.Bool.Decides.{nat_tests}
use Rattle.showing.specs.declared.situation.Situation.{Situation}
use Rattle.showing.specs.declared.next.Next.{Next}
use Rattle.showing.specs.declared.next.Next.TheVariants.{Wait, WaitUntilAsked, HoldBack, Rest}
use Rattle.showing.specs.Table.{next_of, is_over, is_awaited, goes_on, leaps, is_far, may_go_on, has_more}
use Rattle.showing.specs.Run.{Watch, Event, Works, woken, told_the_end, waited, done, happens, happens_to}
use Rattle.showing.proofs.Says.{Says, says}
use Rattle.showing.proofs.Means.{going}
use Rattle.showing.proofs.Kept.{either}
use Rattle.showing.proofs.Sound.{on_wait}

pub says_if : (s : Situation) (next : Next) → next_of s ≡ next → Says s next
says_if s next e = subst (Says s) e (says s)

none_left : (s : Situation) → has_more s ≡ false → (s.committed ≤ s.position) × (s.has_waited ≡ false)
none_left s e = grind (arith, nat_tests)

stays : (s : Situation) → is_over s ≡ false → s.has_left ≡ false
stays s e = grind arith

pub waits_for_more : (s : Situation) → next_of s ≡ Wait → (s.committed ≤ s.position) × (s.has_waited ≡ false) × (s.is_at_end ≡ false) × (s.has_left ≡ false)
waits_for_more s e =
    let has = on_wait s (says_if s Wait e) in
    let none = none_left s has.1 in
    (none.0, none.1, has.0.0, stays s has.0.1)

pub unasked : (s : Situation) → may_go_on s ≡ false → (s.has_asked ≡ false) × (s.is_answered ≡ false) × (s.is_closing ≡ false)
unasked s e = grind arith

awaited_parts : (s : Situation) → is_awaited s ≡ true → (is_over s ≡ false) × (may_go_on s ≡ false)
awaited_parts s e = grind arith

pub waits_until_asked : (s : Situation) → next_of s ≡ WaitUntilAsked → (s.has_asked ≡ false) × (s.is_answered ≡ false) × (s.is_closing ≡ false) × (s.has_left ≡ false)
waits_until_asked s e =
    let parts = awaited_parts s (says_if s WaitUntilAsked e) in
    let none = unasked s parts.1 in
    (none.0, none.1, none.2, stays s parts.0)

no_asking : (leap far may : Bool) → (leap && not (far || may)) ≡ true → may ≡ false
no_asking leap far may e = grind arith

pub is_held_until_asked : (s : Situation) → next_of s ≡ HoldBack → (s.has_asked ≡ false) × (s.is_answered ≡ false) × (s.is_closing ≡ false) × (s.has_left ≡ false)
is_held_until_asked s e =
    let parts = and_parts (goes_on s) (leaps s && not (is_far s || may_go_on s)) (says_if s HoldBack e) in
    let none = unasked s (no_asking (leaps s) (is_far s) (may_go_on s) parts.1) in
    (none.0, none.1, none.2, stays s (going s parts.0).0.1)

pub rests_at_end : (s : Situation) → s.is_at_end ≡ true → next_of s ≡ Rest
rests_at_end s e = rw e refl

pub happens_if : (w : Watch) (e : Event) → w.gone ≡ false → happens w e ≡ happens_to w e
happens_if w e g = rw g refl

-- a wait ends if there is something
woken_waits_no_more : (w : Watch) → next_of (woken w).sees ≢ Wait
woken_waits_no_more w e = let none = (waits_for_more (woken w).sees e).1 in cc

ended_waits_no_more : (w : Watch) → next_of (told_the_end w).sees ≢ Wait
ended_waits_no_more w e = let none = (waits_for_more (told_the_end w).sees e).2 in cc

not_below : (a b : ℕ) → a < b → nat_lt a b ≡ false → ⊥
not_below a b l e = grind (arith, nat_tests)

waited_no_more : (w : Watch) → (w.sees.position < w.stored) ⊎ (w.ended ≡ true) → next_of (waited w).sees ≢ Wait
waited_no_more w cause =
    either (λ (v : Watch). next_of v.sees ≢ Wait) (nat_lt w.sees.position w.stored) (woken w) (if w.ended then told_the_end w else w)
    (λ _. woken_waits_no_more w)
    (λ none. either (λ (v : Watch). next_of v.sees ≢ Wait) w.ended (told_the_end w) w (λ _. ended_waits_no_more w)
    (λ goes_on. elim cause [
      | inl more ↦ absurd (not_below w.sees.position w.stored more none)
      | inr ended ↦ absurd (let contrary : true ≡ false = sym ended ∙ goes_on in cc)
    ]))

pub waits_no_longer : (w : Watch) (more : ℕ) (changes_all : Bool) → w.gone ≡ false → next_of w.sees ≡ Wait → (w.sees.position < w.stored) ⊎ (w.ended ≡ true)
    → next_of (happens w (Works more changes_all)).sees ≢ Wait
waits_no_longer w more changes_all goes e cause =
    let is : happens w (Works more changes_all) ≡ waited w = happens_if w (Works more changes_all) goes ∙ ap (done w more changes_all) e in
    subst (λ (v : Watch). next_of v.sees ≢ Wait) (sym is) (waited_no_more w cause)
