-- A viewer that begins after some messages: it comes to its beginning, is shown each message, and
-- has been shown them.
use Rattle.std.proofs.Common.{◌≡◌, ℕ, suc, ◌⊎◌, Bool, true, false, not, ◌&&◌, ◌||◌, List, [], ◌∷◌, ◌++◌, refl, sym, ap, ◌∙◌, subst, inl, inr, ◌≤◌, ◌<◌, nat_lt, nat_le, min, max, ◌-◌, ◌+◌, arith}
use Rattle.std.proofs.lemmas.Bool.Decides.{nat_tests}
use Rattle.showing.specs.declared.begins.Begins.TheVariants.{After}
use Rattle.showing.specs.declared.situation.Situation.{Situation}
use Rattle.showing.specs.declared.next.Next.{Next}
use Rattle.showing.specs.declared.next.Next.TheVariants.{Want, Wait, WaitUntilAsked, HoldBack, Newest, Seek, Begin, Sleep, Show, Rest, Stop}
use Rattle.showing.specs.Table.{next_of, most, is_owed, may_go_on, is_live, leaps, is_far, goes_on, stands_before_start, starts_at_position, starts_at_newest, is_unread, leaps_now, keeps_up, is_held_back, takes_more}
use Rattle.showing.specs.Run.{Watch, Event, Commits, Tells, Asks, Closes, Ends, Leaves, Works, Lacks, Fails, answered, answered_if_due, moved_to, taken_to, asking, done, lacked, failed, is_read, happens, happens_to, run, comes_after, count_up, BeginsWith}
use Rattle.showing.proofs.Says.{Says, says}
use Rattle.showing.proofs.Means.{coming_means, one_means, live_means, before_means, owed_there, going, taking}
use Rattle.std.proofs.lemmas.Bool.{cases_lt, and_parts}
use Rattle.showing.proofs.Kept.{sent, either, later}
use Rattle.showing.proofs.Counting.{count_up-snoc, begins-whole, begins-trans, count_up-begins}

here_from : (from position n : ℕ) → nat_le from position ≡ true → from ≡ n → position ≤ n → position ≡ n
here_from from position n e f b = grind (arith, nat_tests)

unasked_there : (asked due : Bool) (from position n : ℕ) → due ≡ true → from ≡ n → position ≡ n → (asked ≡ true → due ≡ true → nat_le from position ≡ false) → asked ≡ false
unasked_there true due from position n d f p h = let no_answer = h refl d in absurd (grind (arith, nat_tests))
unasked_there false due from position n d f p h = refl

-- It was shown nothing, and stands at or before its beginning, from which on it is answered.
pub record IsBare (n : ℕ) (w : Watch) : Type 0 where
  pub none : w.shown ≡ []
  pub before : w.sees.position ≤ n
  pub from : w.answers_from ≡ n
  pub owed : w.sees.position ≡ n → w.sees.is_fresh ≡ false → w.due ≡ true
  pub shows : w.due ≡ true → w.sees.is_fresh ≡ false
  pub at : w.sees.is_fresh ≡ false → w.view ≡ w.sees.position

-- once it stands there, it is answered if it asks
pub record IsComing (n : ℕ) (w : Watch) : Type 0 where
  pub bare : IsBare n w
  pub unasked : w.sees.position ≡ n → w.due ≡ true → w.sees.has_asked ≡ false
  pub unanswered : w.sees.is_answered ≡ false

-- It was shown each screen up to its position.
pub record IsShown (n u : ℕ) (w : Watch) : Type 0 where
  pub at : w.sees.position ≡ w.view
  pub shown : w.shown ≡ count_up n (suc (w.view - n))
  pub after : n ≤ w.view
  pub until : w.view < u
  pub fresh : w.sees.is_fresh ≡ false
  pub due : w.due ≡ false
  pub answered : w.answers_from ≤ w.view

-- It was handed the next, and has not asked for it.
pub record IsOwed (n u : ℕ) (w : Watch) : Type 0 where
  pub at : w.sees.position ≡ w.view
  pub shown : w.shown ≡ count_up n (w.view - n)
  pub after : n < w.view
  pub until : w.view ≤ u
  pub fresh : w.sees.is_fresh ≡ false
  pub due : w.due ≡ true
  pub answered : w.answers_from ≤ w.view
  pub unasked : w.sees.has_asked ≡ false
  pub unanswered : w.sees.is_answered ≡ false

abbrev pub IsPassed : ℕ → ℕ → Watch → Type 0
IsPassed n u w = BeginsWith w.shown (count_up n (suc (u - n)))

abbrev pub Stands : ℕ → ℕ → Watch → Type 0
Stands n u w = IsComing n w ⊎ (IsShown n u w ⊎ (IsOwed n u w ⊎ IsPassed n u w))

pub record InOrder (n u : ℕ) (w : Watch) : Type 0 where
  pub begins : w.sees.begins ≡ After n u
  pub reads : w.unread ≡ false → w.sees.has_failed ≡ false
  pub stands : w.sees.is_closing ≡ false → w.unread ≡ false → Stands n u w

-- it is sent the next screen
sent_next : (n u : ℕ) (w : Watch) → w.sees.position ≡ w.view → w.shown ++ w.view ∷ [] ≡ count_up n (suc (w.view - n)) → n ≤ w.view → w.view ≤ u
    → w.answers_from ≤ w.view → w.sees.is_fresh ≡ false → Stands n u (answered w)
sent_next n u w at shown after until from fresh =
    elim (cases_lt w.view u) [
      | inl l ↦ inr (inl (record { at = at; shown = shown; after = after; until = l; fresh = fresh; due = refl; answered = from }))
      | inr l ↦ let e : u ≡ w.view = omega arith in
          inr (inr (inr (begins-whole (w.shown ++ w.view ∷ []) (count_up n (suc (u - n))) (rw e shown))))
    ]

-- one that comes asks, or is handed what lies before it
bare_sent : (n u : ℕ) (w : Watch) → n ≤ u → IsBare n w → w.sees.is_answered ≡ false → Stands n u (answered_if_due w)
bare_sent n u w within b none =
    elim (sent w) [
      | inl s ↦
          let fresh = b.shows s.1 in
          let is : w.view ≡ w.sees.position = b.at fresh in
          let at : w.view ≡ n = here_from w.answers_from w.view n s.2 b.from (omega (arith, b.before)) in
          let zero : n - n ≡ 0 = omega arith in
          let shown : w.shown ++ w.view ∷ [] ≡ count_up n (suc (w.view - n)) = rw (b.none, at, zero) refl in
          let before : w.view ≤ u = omega arith in
          let after : n ≤ w.view = omega arith in
          let from : w.answers_from ≤ w.view = omega (arith, b.from) in
          subst (Stands n u) (sym s.3) (sent_next n u w (sym is) shown after before from fresh)
      | inr s ↦
          subst (Stands n u) (sym s.0) (inl (record { bare = b; unasked = λ at due. unasked_there w.sees.has_asked w.due w.answers_from w.view n due b.from (b.at (b.shows due) ∙ at) s.1; unanswered = none }))
    ]

-- one that was shown each is handed the next, and asks for it; or nothing
next_listed : (n p q : ℕ) (shown : List ℕ) → shown ≡ count_up n (suc (p - n)) → n ≤ p → q ≡ suc p → shown ++ q ∷ [] ≡ count_up n (suc (q - n))
next_listed n p q shown e after next =
    let many : q - n ≡ suc (p - n) = omega arith in
    let last : n + suc (p - n) ≡ q = omega arith in
    rw (e, many, count_up-snoc n (suc (p - n)), last) refl

not_sent_there : (asked due : Bool) (from p q : ℕ) → due ≡ true → from ≤ p → q ≡ suc p → (asked ≡ true → due ≡ true → nat_le from q ≡ false) → asked ≡ false
not_sent_there true due from p q d f e h = let no_answer = h refl d in absurd (grind (arith, nat_tests))
not_sent_there false due from p q d f e h = refl

abbrev IsNext : ℕ → Watch → Type 0
IsNext p w = ((w.view ≡ p) × (w.due ≡ false)) ⊎ ((w.view ≡ suc p) × (w.due ≡ true) × (w.sees.is_answered ≡ false))

one_sent : (n u p : ℕ) (w : Watch) → w.sees.position ≡ w.view → w.shown ≡ count_up n (suc (p - n)) → n ≤ p → p < u → w.answers_from ≤ p → w.sees.is_fresh ≡ false → IsNext p w → Stands n u (answered_if_due w)
one_sent n u p w stands shown after until from fresh (inl here) =
    elim (sent w) [
      | inl s ↦ absurd (let contrary : true ≡ false = sym s.1 ∙ here.1 in cc)
      | inr s ↦
          let at : w.view ≡ p = here.0 in
          subst (Stands n u) (sym s.0) (inr (inl (record { at = stands; shown = rw at shown; after = rw at after; until = rw at until; fresh = fresh; due = here.1; answered = rw at from })))
    ]
one_sent n u p w stands shown after until from fresh (inr next) =
    elim (sent w) [
      | inl s ↦
          let above : n ≤ w.view = omega (arith, next.0) in
          let before : w.view ≤ u = omega (arith, next.0) in
          let answers : w.answers_from ≤ w.view = omega (arith, next.0) in
          subst (Stands n u) (sym s.3) (sent_next n u w stands (next_listed n p w.view w.shown shown after next.0) above before answers fresh)
      | inr s ↦
          let many : w.view - n ≡ suc (p - n) = omega (arith, next.0) in
          subst (Stands n u) (sym s.0) (inr (inr (inl (record {
            at = stands;
            shown = rw many shown;
            after = omega (arith, next.0);
            until = omega (arith, next.0);
            fresh = fresh;
            due = next.1;
            answered = omega (arith, next.0);
            unasked = not_sent_there w.sees.has_asked w.due w.answers_from p w.view next.1 from next.0 s.1;
            unanswered = next.2;
          }))))
    ]

-- whether it has something to be shown once it was handed so much
due_fresh : (due fresh moved : Bool) → fresh ≡ true → (due || (fresh || moved)) ≡ true
due_fresh due fresh moved e = grind arith

due_moved : (due fresh : Bool) (p q : ℕ) → p < q → (due || (fresh || nat_lt p q)) ≡ true
due_moved due fresh p q l = grind (arith, nat_tests)

due_still : (due fresh : Bool) (p q : ℕ) → due ≡ false → fresh ≡ false → q ≡ p → (due || (fresh || nat_lt p q)) ≡ false
due_still due fresh p q d f e = grind (arith, nat_tests)

not_shown : (s : Situation) → (is_owed s ≡ false) ⊎ (may_go_on s ≡ true) → is_owed s ≡ true → s.is_closing ≡ false → s.has_asked ≡ false → s.is_answered ≡ false → ⊥
not_shown s owed is closing asked answered = grind arith

due_now : (due fresh : Bool) (p q n : ℕ) → q ≡ n → (fresh ≡ true) ⊎ (p < n) → (due || (fresh || nat_lt p q)) ≡ true
due_now due fresh p q n at (inl e) = due_fresh due fresh (nat_lt p q) e
due_now due fresh p q n at (inr l) = due_moved due fresh p q (omega arith)

-- One that comes is not handed more than what lies before it. What a live one or one that is shown
-- each is handed comes only once it asks.
not_yet : (n u : ℕ) (w : Watch) → n ≤ u → w.sees.begins ≡ After n u → w.sees.is_closing ≡ false → IsComing n w → w.sees.is_fresh ≡ false → n ≤ w.sees.position
    → (is_owed w.sees ≡ false) ⊎ (may_go_on w.sees ≡ true) → ⊥
not_yet n u w within begins stays c fresh above owed =
    let at : w.sees.position ≡ n = omega (arith, c.bare.before) in
    not_shown w.sees owed (owed_there n u w.sees begins above (omega arith)) stays (c.unasked at (c.bare.owed at fresh)) c.unanswered

not_yet_owed : (n u : ℕ) (w : Watch) → w.sees.begins ≡ After n u → w.sees.is_closing ≡ false → IsOwed n u w → (is_owed w.sees ≡ false) ⊎ (may_go_on w.sees ≡ true) → ⊥
not_yet_owed n u w begins stays o owed =
    let at = o.at in
    not_shown w.sees owed (owed_there n u w.sees begins (omega (arith, o.after)) (omega (arith, o.until))) stays o.unasked o.unanswered

no_answer : (answered moved : Bool) → answered ≡ false → (answered && not moved) ≡ false
no_answer answered moved e = rw e refl

no_answer_yet : (answered fresh : Bool) (p q : ℕ) → p < q → (answered && not (fresh || nat_lt p q)) ≡ false
no_answer_yet answered fresh p q l = grind (arith, nat_tests)

coming_taken : (n u : ℕ) (w : Watch) (count : ℕ) (changes_all : Bool) → n ≤ u → IsComing n w → w.sees.position ≤ count → count ≤ n → (w.sees.is_fresh ≡ true) ⊎ (w.sees.position < n)
    → Stands n u (taken_to w count changes_all)
coming_taken n u w count changes_all within c up to cause =
    bare_sent n u (moved_to w count changes_all) within (record {
      none = c.bare.none;
      before = to;
      from = c.bare.from;
      owed = λ at _. due_now w.due w.sees.is_fresh w.sees.position count n at cause;
      shows = λ _. refl;
      at = λ _. refl;
    }) (no_answer w.sees.is_answered (w.sees.is_fresh || nat_lt w.sees.position count) c.unanswered)

one_taken : (n u : ℕ) (w : Watch) (count : ℕ) (changes_all : Bool) → IsShown n u w → (count ≡ w.sees.position) ⊎ (count ≡ suc w.sees.position) → Stands n u (taken_to w count changes_all)
one_taken n u w count changes_all b (inl e) =
    one_sent n u w.view (moved_to w count changes_all) refl b.shown b.after b.until b.answered refl (inl (e ∙ b.at, due_still w.due w.sees.is_fresh w.sees.position count b.due b.fresh e))
one_taken n u w count changes_all b (inr e) =
    one_sent n u w.view (moved_to w count changes_all) refl b.shown b.after b.until b.answered refl
    (inr (e ∙ ap suc b.at, due_moved w.due w.sees.is_fresh w.sees.position count (omega arith), no_answer_yet w.sees.is_answered w.sees.is_fresh w.sees.position count (omega arith)))

-- how far it comes by what it is handed
abbrev handed : ℕ → ℕ → ℕ → ℕ → ℕ
handed p limit stored more = p + min (min limit (stored - p)) (suc more)

handed_above : (p limit stored more : ℕ) → p ≤ handed p limit stored more
handed_above p limit stored more = omega arith

handed_below : (p limit stored more n k : ℕ) → limit ≡ k → p + k ≤ n → handed p limit stored more ≤ n
handed_below p limit stored more n k e l = omega arith

handed_coming : (p limit stored more n : ℕ) → limit ≡ min (n - p) most → p < n → handed p limit stored more ≤ n
handed_coming p limit stored more n e l = omega arith

handed_one : (p limit stored more : ℕ) → limit ≡ 1 → (handed p limit stored more ≡ p) ⊎ (handed p limit stored more ≡ suc p)
handed_one p limit stored more e = elim (cases_lt p stored) [
  | inl l ↦ inr (omega arith)
  | inr l ↦ inl (omega arith)
]

fresh_there : (s : Situation) → starts_at_position s ≡ true → s.is_fresh ≡ true
fresh_there s e = grind arith

fresh_newest : (s : Situation) → starts_at_newest s ≡ true → (s.is_fresh ≡ true) × (stands_before_start s ≡ false)
fresh_newest s e = grind arith

failed_then : (s : Situation) → is_unread s ≡ true → s.has_failed ≡ true
failed_then s e = grind arith

leap_parts : (s : Situation) → leaps s ≡ true → is_live s ≡ true
leap_parts s e = grind arith

keeping_up : (s : Situation) → keeps_up s ≡ true → (s.is_fresh ≡ false) × ((is_owed s ≡ false) ⊎ (may_go_on s ≡ true)) × (is_live s ≡ true)
keeping_up s e = let parts = and_parts (takes_more s) (is_live s) e in let taken = taking s parts.0 in (taken.0.3, taken.1, parts.1)

leaping : (s : Situation) → leaps_now s ≡ true → (s.is_fresh ≡ false) × ((is_owed s ≡ false) ⊎ (may_go_on s ≡ true)) × (is_live s ≡ true)
leaping s e =
    let parts = and_parts (goes_on s) (leaps s && (is_far s || may_go_on s)) e in
    let onward = going s parts.0 in
    let far_or_asked = and_parts (leaps s) (is_far s || may_go_on s) parts.1 in
    (onward.0.3, onward.1, leap_parts s far_or_asked.0)

held : (s : Situation) → is_held_back s ≡ true → (s.is_fresh ≡ false) × ((is_owed s ≡ false) ⊎ (may_go_on s ≡ true)) × (is_live s ≡ true)
held s e =
    let parts = and_parts (goes_on s) (leaps s && not (is_far s || may_go_on s)) e in
    let onward = going s parts.0 in
    let far_or_asked = and_parts (leaps s) (not (is_far s || may_go_on s)) parts.1 in
    (onward.0.3, onward.1, leap_parts s far_or_asked.0)

-- a live one is further than who comes, or is shown each
no_live_coming : (n u : ℕ) (w : Watch) → n ≤ u → w.sees.begins ≡ After n u → w.sees.is_closing ≡ false → IsComing n w → (w.sees.is_fresh ≡ false) × ((is_owed w.sees ≡ false) ⊎ (may_go_on w.sees ≡ true)) × (is_live w.sees ≡ true) → ⊥
no_live_coming n u w within begins stays c l = not_yet n u w within begins stays c l.0 (live_means n u w.sees begins l.2).0 l.1

no_live_shown : (n u : ℕ) (w : Watch) → w.sees.begins ≡ After n u → IsShown n u w → is_live w.sees ≡ true → ⊥
no_live_shown n u w begins b l = let above = (live_means n u w.sees begins l).1 in let below = b.until in let at = b.at in omega arith

coming_same : (n : ℕ) (w v : Watch) → IsComing n w → v.shown ≡ w.shown → v.sees.position ≡ w.sees.position → v.view ≡ w.view → v.answers_from ≡ w.answers_from → v.due ≡ w.due
    → v.sees.is_fresh ≡ w.sees.is_fresh → v.sees.has_asked ≡ w.sees.has_asked → v.sees.is_answered ≡ w.sees.is_answered → IsComing n v
coming_same n w v c shown position view from due fresh asked answered = record {
  bare = record {
    none = shown ∙ c.bare.none;
    before = rw position c.bare.before;
    from = from ∙ c.bare.from;
    owed = λ at f. due ∙ c.bare.owed (sym position ∙ at) (sym fresh ∙ f);
    shows = λ d. fresh ∙ c.bare.shows (sym due ∙ d);
    at = λ f. view ∙ c.bare.at (sym fresh ∙ f) ∙ sym position;
  };
  unasked = λ at d. asked ∙ c.unasked (sym position ∙ at) (sym due ∙ d);
  unanswered = answered ∙ c.unanswered;
}

coming_done : (n u : ℕ) (w : Watch) (more : ℕ) (changes_all : Bool) (next : Next) → n ≤ u → w.sees.begins ≡ After n u → w.sees.has_failed ≡ false → w.sees.is_closing ≡ false
    → IsComing n w → Says w.sees next → Stands n u (done w more changes_all next)
coming_done n u w more changes_all (Want limit) within begins reads stays c (inl (e, l)) =
    coming_taken n u w (handed w.sees.position limit w.stored more) changes_all within c (handed_above w.sees.position limit w.stored more)
    (handed_below w.sees.position limit w.stored more n 0 l (omega (arith, c.bare.before))) (inl (fresh_there w.sees e))
coming_done n u w more changes_all (Want limit) within begins reads stays c (inr (inl (e, l))) =
    let means = coming_means n u w.sees begins e in
    coming_taken n u w (handed w.sees.position limit w.stored more) changes_all within c (handed_above w.sees.position limit w.stored more)
    (handed_coming w.sees.position limit w.stored more n (l ∙ means.2) means.1) (inr means.1)
coming_done n u w more changes_all (Want limit) within begins reads stays c (inr (inr (inl (e, l)))) =
    let means = one_means n u w.sees begins e in absurd (not_yet n u w within begins stays c means.0 means.2 (inr means.1))
coming_done n u w more changes_all (Want limit) within begins reads stays c (inr (inr (inr (e, l)))) =
    absurd (no_live_coming n u w within begins stays c (keeping_up w.sees e))
coming_done n u w more changes_all Newest within begins reads stays c (inl e) = absurd (let contrary : true ≡ false = sym (failed_then w.sees e) ∙ reads in cc)
coming_done n u w more changes_all Newest within begins reads stays c (inr (inl e)) =
    let above = before_means n u w.sees begins (fresh_newest w.sees e).1 in absurd (omega (arith, c.bare.before))
coming_done n u w more changes_all Newest within begins reads stays c (inr (inr e)) = absurd (no_live_coming n u w within begins stays c (leaping w.sees e))
coming_done n u w more changes_all Wait within begins reads stays c e =
    either (Stands n u) _ _ _ (λ _. inl (coming_same n w _ c refl refl refl refl refl refl refl refl))
    (λ _. either (Stands n u) w.ended _ _ (λ _. inl (coming_same n w _ c refl refl refl refl refl refl refl refl)) (λ _. inl c))
coming_done n u w more changes_all WaitUntilAsked within begins reads stays c e = inl c
coming_done n u w more changes_all HoldBack within begins reads stays c e = absurd (no_live_coming n u w within begins stays c (held w.sees e))
coming_done n u w more changes_all Rest within begins reads stays c e = either (Stands n u) _ _ _ (λ _. inl (coming_same n w _ c refl refl refl refl refl refl refl refl)) (λ _. inl c)
coming_done n u w more changes_all Stop within begins reads stays c e = inl (coming_same n w _ c refl refl refl refl refl refl refl refl)
coming_done n u w more changes_all (Seek count) within begins reads stays c e = absurd e
coming_done n u w more changes_all Begin within begins reads stays c e = absurd e
coming_done n u w more changes_all (Sleep time) within begins reads stays c e = absurd e
coming_done n u w more changes_all Show within begins reads stays c e = absurd e

shown_same : (n u : ℕ) (w v : Watch) → IsShown n u w → v.shown ≡ w.shown → v.sees.position ≡ w.sees.position → v.view ≡ w.view → v.answers_from ≡ w.answers_from → v.due ≡ w.due
    → v.sees.is_fresh ≡ w.sees.is_fresh → IsShown n u v
shown_same n u w v b shown position view from due fresh = record {
  at = position ∙ b.at ∙ sym view;
  shown = rw (shown, view) b.shown;
  after = rw view b.after;
  until = rw view b.until;
  fresh = fresh ∙ b.fresh;
  due = due ∙ b.due;
  answered = rw (from, view) b.answered;
}

shown_fresh : (n u : ℕ) (w : Watch) → IsShown n u w → w.sees.is_fresh ≡ true → ⊥
shown_fresh n u w b e = let contrary : true ≡ false = sym e ∙ b.fresh in cc

shown_done : (n u : ℕ) (w : Watch) (more : ℕ) (changes_all : Bool) (next : Next) → w.sees.begins ≡ After n u → w.sees.has_failed ≡ false → w.sees.is_closing ≡ false
    → IsShown n u w → Says w.sees next → Stands n u (done w more changes_all next)
shown_done n u w more changes_all (Want limit) begins reads stays b (inl (e, l)) = absurd (shown_fresh n u w b (fresh_there w.sees e))
shown_done n u w more changes_all (Want limit) begins reads stays b (inr (inl (e, l))) =
    let means = coming_means n u w.sees begins e in absurd (omega (arith, b.after, b.at, means.1))
shown_done n u w more changes_all (Want limit) begins reads stays b (inr (inr (inl (e, l)))) =
    let means = one_means n u w.sees begins e in
    one_taken n u w (handed w.sees.position limit w.stored more) changes_all b (handed_one w.sees.position limit w.stored more l)
shown_done n u w more changes_all (Want limit) begins reads stays b (inr (inr (inr (e, l)))) = absurd (no_live_shown n u w begins b (keeping_up w.sees e).2)
shown_done n u w more changes_all Newest begins reads stays b (inl e) = absurd (let contrary : true ≡ false = sym (failed_then w.sees e) ∙ reads in cc)
shown_done n u w more changes_all Newest begins reads stays b (inr (inl e)) = absurd (shown_fresh n u w b (fresh_newest w.sees e).0)
shown_done n u w more changes_all Newest begins reads stays b (inr (inr e)) = absurd (no_live_shown n u w begins b (leaping w.sees e).2)
shown_done n u w more changes_all Wait begins reads stays b e =
    either (Stands n u) _ _ _ (λ _. inr (inl (shown_same n u w _ b refl refl refl refl refl refl)))
    (λ _. either (Stands n u) w.ended _ _ (λ _. inr (inl (shown_same n u w _ b refl refl refl refl refl refl))) (λ _. inr (inl b)))
shown_done n u w more changes_all WaitUntilAsked begins reads stays b e = inr (inl b)
shown_done n u w more changes_all HoldBack begins reads stays b e = absurd (no_live_shown n u w begins b (held w.sees e).2)
shown_done n u w more changes_all Rest begins reads stays b e = either (Stands n u) _ _ _ (λ _. inr (inl (shown_same n u w _ b refl refl refl refl refl refl))) (λ _. inr (inl b))
shown_done n u w more changes_all Stop begins reads stays b e = inr (inl (shown_same n u w _ b refl refl refl refl refl refl))
shown_done n u w more changes_all (Seek count) begins reads stays b e = absurd e
shown_done n u w more changes_all Begin begins reads stays b e = absurd e
shown_done n u w more changes_all (Sleep time) begins reads stays b e = absurd e
shown_done n u w more changes_all Show begins reads stays b e = absurd e

owed_same : (n u : ℕ) (w v : Watch) → IsOwed n u w → v.shown ≡ w.shown → v.sees.position ≡ w.sees.position → v.view ≡ w.view → v.answers_from ≡ w.answers_from → v.due ≡ w.due
    → v.sees.is_fresh ≡ w.sees.is_fresh → v.sees.has_asked ≡ w.sees.has_asked → v.sees.is_answered ≡ w.sees.is_answered → IsOwed n u v
owed_same n u w v o shown position view from due fresh asked answered = record {
  at = position ∙ o.at ∙ sym view;
  shown = rw (shown, view) o.shown;
  after = rw view o.after;
  until = rw view o.until;
  fresh = fresh ∙ o.fresh;
  due = due ∙ o.due;
  answered = rw (from, view) o.answered;
  unasked = asked ∙ o.unasked;
  unanswered = answered ∙ o.unanswered;
}

owed_fresh : (n u : ℕ) (w : Watch) → IsOwed n u w → w.sees.is_fresh ≡ true → ⊥
owed_fresh n u w o e = let contrary : true ≡ false = sym e ∙ o.fresh in cc

sent_there : (from view : ℕ) → from ≤ view → nat_le from view ≡ false → ⊥
sent_there from view l e = grind (arith, nat_tests)

-- who is owed something is handed nothing
owed_done : (n u : ℕ) (w : Watch) (more : ℕ) (changes_all : Bool) (next : Next) → w.sees.begins ≡ After n u → w.sees.has_failed ≡ false → w.sees.is_closing ≡ false
    → IsOwed n u w → Says w.sees next → Stands n u (done w more changes_all next)
owed_done n u w more changes_all (Want limit) begins reads stays o (inl (e, l)) = absurd (owed_fresh n u w o (fresh_there w.sees e))
owed_done n u w more changes_all (Want limit) begins reads stays o (inr (inl (e, l))) =
    let means = coming_means n u w.sees begins e in absurd (omega (arith, o.after, o.at, means.1))
owed_done n u w more changes_all (Want limit) begins reads stays o (inr (inr (inl (e, l)))) =
    let means = one_means n u w.sees begins e in absurd (not_yet_owed n u w begins stays o (inr means.1))
owed_done n u w more changes_all (Want limit) begins reads stays o (inr (inr (inr (e, l)))) = absurd (not_yet_owed n u w begins stays o (keeping_up w.sees e).1)
owed_done n u w more changes_all Newest begins reads stays o (inl e) = absurd (let contrary : true ≡ false = sym (failed_then w.sees e) ∙ reads in cc)
owed_done n u w more changes_all Newest begins reads stays o (inr (inl e)) = absurd (owed_fresh n u w o (fresh_newest w.sees e).0)
owed_done n u w more changes_all Newest begins reads stays o (inr (inr e)) = absurd (not_yet_owed n u w begins stays o (leaping w.sees e).1)
owed_done n u w more changes_all Wait begins reads stays o e =
    either (Stands n u) _ _ _ (λ _. inr (inr (inl (owed_same n u w _ o refl refl refl refl refl refl refl refl))))
    (λ _. either (Stands n u) w.ended _ _ (λ _. inr (inr (inl (owed_same n u w _ o refl refl refl refl refl refl refl refl)))) (λ _. inr (inr (inl o))))
owed_done n u w more changes_all WaitUntilAsked begins reads stays o e = inr (inr (inl o))
owed_done n u w more changes_all HoldBack begins reads stays o e = absurd (not_yet_owed n u w begins stays o (held w.sees e).1)
owed_done n u w more changes_all Rest begins reads stays o e =
    either (Stands n u) _ _ _ (λ _. inr (inr (inl (owed_same n u w _ o refl refl refl refl refl refl refl refl)))) (λ _. inr (inr (inl o)))
owed_done n u w more changes_all Stop begins reads stays o e = inr (inr (inl (owed_same n u w _ o refl refl refl refl refl refl refl refl)))
owed_done n u w more changes_all (Seek count) begins reads stays o e = absurd e
owed_done n u w more changes_all Begin begins reads stays o e = absurd e
owed_done n u w more changes_all (Sleep time) begins reads stays o e = absurd e
owed_done n u w more changes_all Show begins reads stays o e = absurd e

owed_lacked : (n u : ℕ) (w : Watch) (next : Next) → w.sees.begins ≡ After n u → w.sees.has_failed ≡ false → w.sees.is_closing ≡ false → IsOwed n u w → Says w.sees next → Stands n u (lacked w next)
owed_lacked n u w (Want limit) begins reads stays o e = inr (inr (inl (owed_same n u w _ o refl refl refl refl refl refl refl refl)))
owed_lacked n u w Newest begins reads stays o (inl e) = absurd (let contrary : true ≡ false = sym (failed_then w.sees e) ∙ reads in cc)
owed_lacked n u w Newest begins reads stays o (inr (inl e)) = absurd (owed_fresh n u w o (fresh_newest w.sees e).0)
owed_lacked n u w Newest begins reads stays o (inr (inr e)) = absurd (not_yet_owed n u w begins stays o (leaping w.sees e).1)
owed_lacked n u w Wait begins reads stays o e = inr (inr (inl o))
owed_lacked n u w WaitUntilAsked begins reads stays o e = inr (inr (inl o))
owed_lacked n u w HoldBack begins reads stays o e = inr (inr (inl o))
owed_lacked n u w Rest begins reads stays o e = inr (inr (inl o))
owed_lacked n u w Stop begins reads stays o e = inr (inr (inl o))
owed_lacked n u w (Seek count) begins reads stays o e = inr (inr (inl o))
owed_lacked n u w Begin begins reads stays o e = inr (inr (inl o))
owed_lacked n u w (Sleep time) begins reads stays o e = inr (inr (inl o))
owed_lacked n u w Show begins reads stays o e = inr (inr (inl o))

-- once it asks, it is shown that
due_listed : (n view : ℕ) (shown : List ℕ) → shown ≡ count_up n (view - n) → n < view → shown ++ view ∷ [] ≡ count_up n (suc (view - n))
due_listed n view shown e l =
    let last : n + (view - n) ≡ view = omega arith in
    rw (e, count_up-snoc n (view - n), last) refl

owed_asks : (n u : ℕ) (w : Watch) → IsOwed n u w → Stands n u (answered_if_due (asking w))
owed_asks n u w o = elim (sent (asking w)) [
  | inl s ↦ subst (Stands n u) (sym s.3) (sent_next n u (asking w) o.at (due_listed n w.view w.shown o.shown o.after) (let after = o.after in omega arith) o.until o.answered o.fresh)
  | inr s ↦ absurd (let no_answer = s.1 refl o.due in sent_there w.answers_from w.view o.answered no_answer)
]

-- without memory nothing moves
coming_lacked : (n u : ℕ) (w : Watch) (next : Next) → n ≤ u → w.sees.begins ≡ After n u → w.sees.has_failed ≡ false → w.sees.is_closing ≡ false → IsComing n w → Says w.sees next → Stands n u (lacked w next)
coming_lacked n u w (Want limit) within begins reads stays c e = inl (coming_same n w _ c refl refl refl refl refl refl refl refl)
coming_lacked n u w Newest within begins reads stays c (inl e) = absurd (let contrary : true ≡ false = sym (failed_then w.sees e) ∙ reads in cc)
coming_lacked n u w Newest within begins reads stays c (inr (inl e)) =
    let above = before_means n u w.sees begins (fresh_newest w.sees e).1 in absurd (omega (arith, c.bare.before))
coming_lacked n u w Newest within begins reads stays c (inr (inr e)) = absurd (no_live_coming n u w within begins stays c (leaping w.sees e))
coming_lacked n u w Wait within begins reads stays c e = inl c
coming_lacked n u w WaitUntilAsked within begins reads stays c e = inl c
coming_lacked n u w HoldBack within begins reads stays c e = inl c
coming_lacked n u w Rest within begins reads stays c e = inl c
coming_lacked n u w Stop within begins reads stays c e = inl c
coming_lacked n u w (Seek count) within begins reads stays c e = inl c
coming_lacked n u w Begin within begins reads stays c e = inl c
coming_lacked n u w (Sleep time) within begins reads stays c e = inl c
coming_lacked n u w Show within begins reads stays c e = inl c

shown_lacked : (n u : ℕ) (w : Watch) (next : Next) → w.sees.begins ≡ After n u → w.sees.has_failed ≡ false → IsShown n u w → Says w.sees next → Stands n u (lacked w next)
shown_lacked n u w (Want limit) begins reads b e = inr (inl (shown_same n u w _ b refl refl refl refl refl refl))
shown_lacked n u w Newest begins reads b (inl e) = absurd (let contrary : true ≡ false = sym (failed_then w.sees e) ∙ reads in cc)
shown_lacked n u w Newest begins reads b (inr (inl e)) = absurd (shown_fresh n u w b (fresh_newest w.sees e).0)
shown_lacked n u w Newest begins reads b (inr (inr e)) = absurd (no_live_shown n u w begins b (leaping w.sees e).2)
shown_lacked n u w Wait begins reads b e = inr (inl b)
shown_lacked n u w WaitUntilAsked begins reads b e = inr (inl b)
shown_lacked n u w HoldBack begins reads b e = inr (inl b)
shown_lacked n u w Rest begins reads b e = inr (inl b)
shown_lacked n u w Stop begins reads b e = inr (inl b)
shown_lacked n u w (Seek count) begins reads b e = inr (inl b)
shown_lacked n u w Begin begins reads b e = inr (inl b)
shown_lacked n u w (Sleep time) begins reads b e = inr (inl b)
shown_lacked n u w Show begins reads b e = inr (inl b)

-- one that is shown each asks
shown_asks : (n u : ℕ) (w : Watch) → IsShown n u w → Stands n u (answered_if_due (asking w))
shown_asks n u w b = one_sent n u w.view (asking w) b.at b.shown b.after b.until b.answered b.fresh (inl (refl, b.due))

coming_asks : (n u : ℕ) (w : Watch) → n ≤ u → IsComing n w → Stands n u (answered_if_due (asking w))
coming_asks n u w within c = bare_sent n u (asking w) within (record { none = c.bare.none; before = c.bare.before; from = c.bare.from; owed = c.bare.owed; shows = c.bare.shows; at = c.bare.at }) c.unanswered

coming_to : (n u : ℕ) (w : Watch) (e : Event) → n ≤ u → w.sees.begins ≡ After n u → w.sees.has_failed ≡ false → w.sees.is_closing ≡ false → IsComing n w → Stands n u (happens_to w e)
coming_to n u w Commits within begins reads stays c = either (Stands n u) w.ended _ _ (λ _. inl c) (λ _. inl (coming_same n w _ c refl refl refl refl refl refl refl refl))
coming_to n u w Tells within begins reads stays c = inl (coming_same n w _ c refl refl refl refl refl refl refl refl)
coming_to n u w Asks within begins reads stays c = coming_asks n u w within c
coming_to n u w Closes within begins reads stays c = inl (coming_same n w _ c refl refl refl refl refl refl refl refl)
coming_to n u w Ends within begins reads stays c = inl (coming_same n w _ c refl refl refl refl refl refl refl refl)
coming_to n u w Leaves within begins reads stays c = inl (coming_same n w _ c refl refl refl refl refl refl refl refl)
coming_to n u w (Works more changes_all) within begins reads stays c = coming_done n u w more changes_all (next_of w.sees) within begins reads stays c (says w.sees)
coming_to n u w Lacks within begins reads stays c = coming_lacked n u w (next_of w.sees) within begins reads stays c (says w.sees)
coming_to n u w Fails within begins reads stays c = either (Stands n u) (is_read (next_of w.sees)) (failed w) w (λ _. inl (coming_same n w _ c refl refl refl refl refl refl refl refl)) (λ _. inl c)

shown_to : (n u : ℕ) (w : Watch) (e : Event) → w.sees.begins ≡ After n u → w.sees.has_failed ≡ false → w.sees.is_closing ≡ false → IsShown n u w → Stands n u (happens_to w e)
shown_to n u w Commits begins reads stays b = either (Stands n u) w.ended _ _ (λ _. inr (inl b)) (λ _. inr (inl (shown_same n u w _ b refl refl refl refl refl refl)))
shown_to n u w Tells begins reads stays b = inr (inl (shown_same n u w _ b refl refl refl refl refl refl))
shown_to n u w Asks begins reads stays b = shown_asks n u w b
shown_to n u w Closes begins reads stays b = inr (inl (shown_same n u w _ b refl refl refl refl refl refl))
shown_to n u w Ends begins reads stays b = inr (inl (shown_same n u w _ b refl refl refl refl refl refl))
shown_to n u w Leaves begins reads stays b = inr (inl (shown_same n u w _ b refl refl refl refl refl refl))
shown_to n u w (Works more changes_all) begins reads stays b = shown_done n u w more changes_all (next_of w.sees) begins reads stays b (says w.sees)
shown_to n u w Lacks begins reads stays b = shown_lacked n u w (next_of w.sees) begins reads b (says w.sees)
shown_to n u w Fails begins reads stays b = either (Stands n u) (is_read (next_of w.sees)) (failed w) w (λ _. inr (inl (shown_same n u w _ b refl refl refl refl refl refl))) (λ _. inr (inl b))

owed_to : (n u : ℕ) (w : Watch) (e : Event) → w.sees.begins ≡ After n u → w.sees.has_failed ≡ false → w.sees.is_closing ≡ false → IsOwed n u w → Stands n u (happens_to w e)
owed_to n u w Commits begins reads stays o = either (Stands n u) w.ended _ _ (λ _. inr (inr (inl o))) (λ _. inr (inr (inl (owed_same n u w _ o refl refl refl refl refl refl refl refl))))
owed_to n u w Tells begins reads stays o = inr (inr (inl (owed_same n u w _ o refl refl refl refl refl refl refl refl)))
owed_to n u w Asks begins reads stays o = owed_asks n u w o
owed_to n u w Closes begins reads stays o = inr (inr (inl (owed_same n u w _ o refl refl refl refl refl refl refl refl)))
owed_to n u w Ends begins reads stays o = inr (inr (inl (owed_same n u w _ o refl refl refl refl refl refl refl refl)))
owed_to n u w Leaves begins reads stays o = inr (inr (inl (owed_same n u w _ o refl refl refl refl refl refl refl refl)))
owed_to n u w (Works more changes_all) begins reads stays o = owed_done n u w more changes_all (next_of w.sees) begins reads stays o (says w.sees)
owed_to n u w Lacks begins reads stays o = owed_lacked n u w (next_of w.sees) begins reads stays o (says w.sees)
owed_to n u w Fails begins reads stays o = either (Stands n u) (is_read (next_of w.sees)) (failed w) w (λ _. inr (inr (inl (owed_same n u w _ o refl refl refl refl refl refl refl refl)))) (λ _. inr (inr (inl o)))

stands_on : (n u : ℕ) (w : Watch) (e : Event) → n ≤ u → w.sees.begins ≡ After n u → w.sees.has_failed ≡ false → w.sees.is_closing ≡ false → Stands n u w → Stands n u (happens w e)
stands_on n u w e within begins reads stays (inl c) = either (Stands n u) w.gone w (happens_to w e) (λ _. inl c) (λ _. coming_to n u w e within begins reads stays c)
stands_on n u w e within begins reads stays (inr (inl b)) = either (Stands n u) w.gone w (happens_to w e) (λ _. inr (inl b)) (λ _. shown_to n u w e begins reads stays b)
stands_on n u w e within begins reads stays (inr (inr (inl o))) = either (Stands n u) w.gone w (happens_to w e) (λ _. inr (inr (inl o))) (λ _. owed_to n u w e begins reads stays o)
stands_on n u w e within begins reads stays (inr (inr (inr p))) = inr (inr (inr (begins-trans (happens w e).shown w.shown (count_up n (suc (u - n))) (later w e).shown p)))

in_order_on : (n u : ℕ) (w : Watch) (e : Event) → n ≤ u → InOrder n u w → InOrder n u (happens w e)
in_order_on n u w e within o =
    let l = later w e in record {
      begins = l.begins ∙ o.begins;
      reads = λ unread. l.reads unread (o.reads (l.unread unread));
      stands = λ closing unread.
          let before = l.closing closing in
          let read = l.unread unread in
          stands_on n u w e within o.begins (o.reads read) before (o.stands before read);
    }

pub in_order_run : (n u : ℕ) (events : List Event) (w : Watch) → n ≤ u → InOrder n u w → InOrder n u (run events w)
in_order_run n u [] w within o = o
in_order_run n u (e ∷ events) w within o = in_order_run n u events (happens w e) within (in_order_on n u w e within o)

pub comes_in_order : (n key stored told : ℕ) (alone : Bool) → key ≤ n → InOrder n (max n told) (comes_after n key stored told alone)
comes_in_order n key stored told alone before = record {
  begins = refl;
  reads = λ _. refl;
  stands = λ _ _. inl (record {
    bare = record { none = refl; before = before; from = refl; owed = λ at f. cc; shows = λ d. cc; at = λ f. cc };
    unasked = λ at d. refl;
    unanswered = refl;
  });
}

head_listed : (n view : ℕ) → n < view → count_up n (view - n) ≡ n ∷ count_up (suc n) (view - suc n)
head_listed n view l = let some : view - n ≡ suc (view - suc n) = omega arith in rw some refl

pub first_shown : (n u : ℕ) (w : Watch) → InOrder n u w → w.sees.is_closing ≡ false → w.unread ≡ false → (count : ℕ) (rest : List ℕ) → w.shown ≡ count ∷ rest → count ≡ n
first_shown n u w o closing unread count rest e = elim (o.stands closing unread) [
  | inl c ↦ let none = c.bare.none in cc
  | inr (inl b) ↦ let some = b.shown in cc
  | inr (inr (inl d)) ↦ let listed = head_listed n w.view d.after in let shown = d.shown in cc
  | inr (inr (inr p)) ↦ let begun = p.1 in cc
]

pub shown_in_order : (n u : ℕ) (w : Watch) → InOrder n u w → w.sees.is_closing ≡ false → w.unread ≡ false → BeginsWith w.shown (count_up n (suc (u - n))) ⊎ BeginsWith (count_up n (suc (u - n))) w.shown
shown_in_order n u w o closing unread = elim (o.stands closing unread) [
  | inl c ↦ inr (count_up n (suc (u - n)), rw c.bare.none refl)
  | inr (inl b) ↦ inr (rw b.shown (count_up-begins n (suc (w.view - n)) (suc (u - n)) (let until = b.until in omega arith)))
  | inr (inr (inl d)) ↦ inr (rw d.shown (count_up-begins n (w.view - n) (suc (u - n)) (let until = d.until in omega arith)))
  | inr (inr (inr p)) ↦ inl p
]
