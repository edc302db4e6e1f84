-- What holds of each run: what is known, the viewer's position, and what it was shown.
use Rattle.std.proofs.Common.{◌≡◌, ℕ, suc, ◌⊎◌, Bool, true, false, not, ◌&&◌, ◌||◌, List, [], ◌∷◌, refl, sym, ◌∙◌, subst, inl, inr, ◌≤◌, ◌<◌, nat_lt, nat_le, min, ◌-◌, ◌+◌, arith}
use Rattle.std.specs.Prelude.{if◌then◌else◌}
use Rattle.std.proofs.lemmas.Bool.{and_parts}
use Rattle.std.proofs.lemmas.Bool.Decides.{nat_tests}
use Rattle.showing.specs.declared.begins.Begins.{Begins}
use Rattle.showing.specs.declared.situation.Situation.{Situation}
use Rattle.showing.specs.declared.next.Next.{Next}
use Rattle.showing.specs.declared.next.Next.TheVariants.{Want, Wait, WaitUntilAsked, HoldBack, Newest, Seek, Begin, Sleep, Show, Rest, Stop}
use Rattle.showing.specs.Table.{next_of, is_over, is_stopped, goes_on, takes_more, leaps, is_far, may_go_on, is_coming, is_shown_each, is_live, has_more}
use Rattle.showing.specs.Run.{Watch, Event, Commits, Tells, Asks, Closes, Ends, Leaves, Works, Lacks, Fails, answered_if_due, moved_to, asking, without_screen, woken, told_the_end, waited, rested, done, lacked, failed, is_read, happens, happens_to, run, EndsWith, comes, start_of}
use Rattle.showing.proofs.Says.{Says, says}
use Rattle.showing.proofs.Means.{HasScreen, going, taking}
use Rattle.showing.proofs.Kept.{sent, either}

pub record IsSound (w : Watch) : Type 0 where
  pub below : w.sees.position ≤ w.stored
  pub told : w.sees.committed ≤ w.stored
  pub answers : w.answers_from ≤ w.stored
  pub at : w.sees.is_fresh ≡ false → w.view ≡ w.sees.position
  pub all : w.sees.is_at_end ≡ true → (w.ended ≡ true) × (w.sees.position ≡ w.stored) × (w.sees.is_fresh ≡ false)
  pub waited : w.sees.has_waited ≡ true → w.sees.is_fresh ≡ false → w.sees.position < w.stored
  pub unanswered : w.sees.has_asked ≡ true → w.due ≡ true → w.view < w.answers_from
  pub seen : w.due ≡ false → w.sees.is_fresh ≡ false → EndsWith w.shown w.view
  pub gone : w.gone ≡ true → w.sees.has_failed ≡ false → (is_over w.sees ≡ true) ⊎ ((w.sees.is_at_end ≡ true) × (w.sees.has_asked ≡ true))

-- before an update is sent, or isn't
record IsReady (w : Watch) : Type 0 where
  pub below : w.sees.position ≤ w.stored
  pub told : w.sees.committed ≤ w.stored
  pub answers : w.answers_from ≤ w.stored
  pub at : w.sees.is_fresh ≡ false → w.view ≡ w.sees.position
  pub all : w.sees.is_at_end ≡ true → (w.ended ≡ true) × (w.sees.position ≡ w.stored) × (w.sees.is_fresh ≡ false)
  pub waited : w.sees.has_waited ≡ true → w.sees.is_fresh ≡ false → w.sees.position < w.stored
  pub seen : w.due ≡ false → w.sees.is_fresh ≡ false → EndsWith w.shown w.view
  pub going : w.gone ≡ false

below_there : (from view : ℕ) → nat_le from view ≡ false → view < from
below_there from view e = grind (arith, nat_tests)

ready_sent : (w : Watch) → IsReady w → IsSound (answered_if_due w)
ready_sent w r = elim (sent w) [
  | inl s ↦ subst IsSound (sym s.3) (record {
    below = r.below;
    told = r.told;
    answers = r.answers;
    at = r.at;
    all = r.all;
    waited = r.waited;
    unanswered = λ a d. cc;
    seen = λ d f. (w.shown, refl);
    gone = λ g _. let going = r.going in cc;
  })
  | inr s ↦ subst IsSound (sym s.0) (record {
    below = r.below;
    told = r.told;
    answers = r.answers;
    at = r.at;
    all = r.all;
    waited = r.waited;
    unanswered = λ a d. below_there w.answers_from w.view (s.1 a d);
    seen = r.seen;
    gone = λ g _. let going = r.going in cc;
  })
]

handed_within : (p limit stored more : ℕ) → p ≤ stored → p + min (min limit (stored - p)) (suc more) ≤ stored
handed_within p limit stored more l = omega arith

-- nothing is due after what moved nothing and left nothing due
still : (due fresh : Bool) (p q : ℕ) → (due || (fresh || nat_lt p q)) ≡ false → p ≤ q → (due ≡ false) × (fresh ≡ false) × (q ≡ p)
still due fresh p q e l = grind (arith, nat_tests)

moved_ready : (w : Watch) (count : ℕ) (changes_all : Bool) → IsSound w → w.gone ≡ false → w.sees.is_at_end ≡ false → w.sees.position ≤ count → count ≤ w.stored → IsReady (moved_to w count changes_all)
moved_ready w count changes_all s going on above within = record {
  below = within;
  told = s.told;
  answers = s.answers;
  at = λ _. refl;
  all = λ e. absurd (let contrary : true ≡ false = sym e ∙ on in cc);
  waited = λ e f. absurd (let contrary : true ≡ false = sym e in cc);
  seen = λ d _. let is = still w.due w.sees.is_fresh w.sees.position count d above in
      let same : count ≡ w.view = is.2 ∙ sym (s.at is.1) in
      subst (EndsWith w.shown) (sym same) (s.seen is.0 is.1);
  going = going;
}

newest_ready : (w : Watch) (changes_all : Bool) → IsSound w → w.gone ≡ false → w.sees.is_at_end ≡ false → IsReady (moved_to (without_screen w) w.stored changes_all)
newest_ready w changes_all s going on = record {
  below = omega arith;
  told = s.told;
  answers = s.answers;
  at = λ _. refl;
  all = λ e. absurd (let contrary : true ≡ false = sym e ∙ on in cc);
  waited = λ e f. absurd (let contrary : true ≡ false = sym e in cc);
  seen = λ d _. let is = still w.due true w.stored w.stored d (omega arith) in absurd (let contrary : true ≡ false = is.1 in cc);
  going = going;
}

-- what the rows say of a viewer that is served
pub on_want : (s : Situation) (limit : ℕ) → Says s (Want limit) → s.is_at_end ≡ false
on_want s limit (inl (e, l)) = grind arith
on_want s limit (inr (inl (e, l))) = (taking s (and_parts (takes_more s) (is_coming s) e).0).0.0
on_want s limit (inr (inr (inl (e, l)))) = (taking s (and_parts (takes_more s) (is_shown_each s) e).0).0.0
on_want s limit (inr (inr (inr (e, l)))) = (taking s (and_parts (takes_more s) (is_live s) e).0).0.0

pub on_newest : (s : Situation) → Says s Newest → s.is_at_end ≡ false
on_newest s (inl e) = grind arith
on_newest s (inr (inl e)) = grind arith
on_newest s (inr (inr e)) = (going s (and_parts (goes_on s) (leaps s && (is_far s || may_go_on s)) e).0).0.0

none_then : (leaps more : Bool) → (not leaps && not more) ≡ true → more ≡ false
none_then leaps more e = grind arith

pub lagging : (s : Situation) → leaps s ≡ true → s.position < s.committed
lagging s e = grind (arith, nat_tests)

on_held : (s : Situation) → Says s HoldBack → HasScreen s × (s.position < s.committed)
on_held s e =
    let parts = and_parts (goes_on s) (leaps s && not (is_far s || may_go_on s)) e in
    ((going s parts.0).0, lagging s (and_parts (leaps s) (not (is_far s || may_go_on s)) parts.1).0)

stopped_then : (s : Situation) → is_stopped s ≡ true → is_over s ≡ true
stopped_then s e = grind arith

pub on_wait : (s : Situation) → Says s Wait → HasScreen s × (has_more s ≡ false)
on_wait s e =
    let parts = and_parts (goes_on s) (not (leaps s) && not (has_more s)) e in
    ((going s parts.0).0, none_then (leaps s) (has_more s) parts.1)

still_here : (w : Watch) → w.gone ≡ false → (v : Watch) → w.gone ≡ true → v.sees.has_failed ≡ false → (is_over v.sees ≡ true) ⊎ ((v.sees.is_at_end ≡ true) × (v.sees.has_asked ≡ true))
still_here w going v g _ = absurd (let contrary : true ≡ false = sym g ∙ going in cc)

at_the_end : (position stored : ℕ) → position ≤ stored → nat_lt position stored ≡ false → position ≡ stored
at_the_end position stored l e = grind (arith, nat_tests)

more_there : (position stored : ℕ) → nat_lt position stored ≡ true → position < stored
more_there position stored e = grind (arith, nat_tests)

left_over : (s : Situation) → s.has_left ≡ true → is_over s ≡ true
left_over s e = grind arith

rested_why : (left asked alone closing : Bool) → (left || (asked && (not alone || closing))) ≡ true → (left ≡ true) ⊎ (asked ≡ true)
rested_why true asked alone closing e = inl refl
rested_why false true alone closing e = inr refl
rested_why false false alone closing e = absurd (let contrary : false ≡ true = e in cc)

sound_waited : (w : Watch) → IsSound w → w.gone ≡ false → Says w.sees Wait → IsSound (waited w)
sound_waited w s going e =
    let has = on_wait w.sees e in
    either IsSound (nat_lt w.sees.position w.stored) (woken w) (if w.ended then told_the_end w else w)
    (λ more. record {
      below = s.below;
      told = s.told;
      answers = s.answers;
      at = s.at;
      all = s.all;
      waited = λ _ _. more_there w.sees.position w.stored more;
      unanswered = s.unanswered;
      seen = s.seen;
      gone = still_here w going (woken w);
    })
    (λ none. either IsSound w.ended (told_the_end w) w
    (λ ended. record {
      below = s.below;
      told = s.told;
      answers = s.answers;
      at = s.at;
      all = λ _. (ended, at_the_end w.sees.position w.stored s.below none, has.0.3);
      waited = s.waited;
      unanswered = s.unanswered;
      seen = s.seen;
      gone = still_here w going (told_the_end w);
    })
    (λ _. s))

sound_rested : (w : Watch) → IsSound w → Says w.sees Rest → IsSound (rested w)
sound_rested w s e =
    either IsSound (w.sees.has_left || (w.sees.has_asked && (not w.sees.is_alone || w.sees.is_closing))) _ _
    (λ why. record {
      below = s.below;
      told = s.told;
      answers = s.answers;
      at = s.at;
      all = s.all;
      waited = s.waited;
      unanswered = s.unanswered;
      seen = s.seen;
      gone = λ _ _. elim (rested_why w.sees.has_left w.sees.has_asked w.sees.is_alone w.sees.is_closing why) [ inl l ↦ inl (left_over w.sees l) | inr a ↦ inr (e, a) ];
    })
    (λ _. s)

sound_done : (w : Watch) (more : ℕ) (changes_all : Bool) (next : Next) → IsSound w → w.gone ≡ false → Says w.sees next → IsSound (done w more changes_all next)
sound_done w more changes_all (Want limit) s going e =
    let count = w.sees.position + min (min limit (w.stored - w.sees.position)) (suc more) in
    ready_sent (moved_to w count changes_all)
    (moved_ready w count changes_all s going (on_want w.sees limit e) (omega arith) (handed_within w.sees.position limit w.stored more s.below))
sound_done w more changes_all Newest s going e = ready_sent (moved_to (without_screen w) w.stored changes_all) (newest_ready w changes_all s going (on_newest w.sees e))
sound_done w more changes_all Wait s going e = sound_waited w s going e
sound_done w more changes_all WaitUntilAsked s going e = s
sound_done w more changes_all HoldBack s going e =
    let has = on_held w.sees e in
    let at = s.at has.0.3 in
    record {
      below = s.below;
      told = s.told;
      answers = omega (arith, s.told, has.1);
      at = s.at;
      all = s.all;
      waited = s.waited;
      unanswered = λ _ _. omega arith;
      seen = s.seen;
      gone = s.gone;
    }
sound_done w more changes_all Rest s going e = sound_rested w s e
sound_done w more changes_all Stop s going e = record {
  below = s.below;
  told = s.told;
  answers = s.answers;
  at = s.at;
  all = s.all;
  waited = s.waited;
  unanswered = s.unanswered;
  seen = s.seen;
  gone = λ _ _. inl (stopped_then w.sees e);
}
sound_done w more changes_all (Seek count) s going e = s
sound_done w more changes_all Begin s going e = s
sound_done w more changes_all (Sleep time) s going e = s
sound_done w more changes_all Show s going e = s

sound_lacked : (w : Watch) (next : Next) → IsSound w → w.gone ≡ false → Says w.sees next → IsSound (lacked w next)
sound_lacked w (Want limit) s going e = record {
  below = s.below;
  told = s.told;
  answers = s.answers;
  at = s.at;
  all = s.all;
  waited = s.waited;
  unanswered = s.unanswered;
  seen = s.seen;
  gone = still_here w going (lacked w (Want limit));
}
sound_lacked w Newest s going e = record {
  below = omega arith;
  told = s.told;
  answers = s.answers;
  at = λ f. absurd (let contrary : true ≡ false = f in cc);
  all = λ a. absurd (let contrary : true ≡ false = sym a ∙ on_newest w.sees e in cc);
  waited = λ _ f. absurd (let contrary : true ≡ false = f in cc);
  unanswered = s.unanswered;
  seen = λ _ f. absurd (let contrary : true ≡ false = f in cc);
  gone = still_here w going (lacked w Newest);
}
sound_lacked w Wait s going e = s
sound_lacked w WaitUntilAsked s going e = s
sound_lacked w HoldBack s going e = s
sound_lacked w Rest s going e = s
sound_lacked w Stop s going e = s
sound_lacked w (Seek count) s going e = s
sound_lacked w Begin s going e = s
sound_lacked w (Sleep time) s going e = s
sound_lacked w Show s going e = s

sound_to : (w : Watch) (e : Event) → IsSound w → w.gone ≡ false → IsSound (happens_to w e)
sound_to w Commits s going = either IsSound w.ended w (record w { stored = suc w.stored }) (λ _. s) (λ goes_on. record {
  below = let b = s.below in omega arith;
  told = let b = s.told in omega arith;
  answers = let b = s.answers in omega arith;
  at = s.at;
  all = λ a. absurd (let contrary : true ≡ false = sym (s.all a).0 ∙ goes_on in cc);
  waited = λ a f. let b = s.waited a f in omega arith;
  unanswered = s.unanswered;
  seen = s.seen;
  gone = still_here w going w;
})
sound_to w Tells s going = record {
  below = s.below;
  told = omega arith;
  answers = s.answers;
  at = s.at;
  all = s.all;
  waited = s.waited;
  unanswered = s.unanswered;
  seen = s.seen;
  gone = still_here w going (happens_to w Tells);
}
sound_to w Asks s going = ready_sent (asking w) (record {
  below = s.below;
  told = s.told;
  answers = s.answers;
  at = s.at;
  all = s.all;
  waited = s.waited;
  seen = s.seen;
  going = going;
})
sound_to w Closes s going = record {
  below = s.below;
  told = s.told;
  answers = s.answers;
  at = s.at;
  all = s.all;
  waited = s.waited;
  unanswered = s.unanswered;
  seen = s.seen;
  gone = still_here w going (happens_to w Closes);
}
sound_to w Ends s going = record {
  below = s.below;
  told = s.told;
  answers = s.answers;
  at = s.at;
  all = λ a. (refl, (s.all a).1, (s.all a).2);
  waited = s.waited;
  unanswered = s.unanswered;
  seen = s.seen;
  gone = still_here w going (happens_to w Ends);
}
sound_to w Leaves s going = record {
  below = s.below;
  told = s.told;
  answers = s.answers;
  at = s.at;
  all = s.all;
  waited = s.waited;
  unanswered = s.unanswered;
  seen = s.seen;
  gone = still_here w going (happens_to w Leaves);
}
sound_to w (Works more changes_all) s going = sound_done w more changes_all (next_of w.sees) s going (says w.sees)
sound_to w Lacks s going = sound_lacked w (next_of w.sees) s going (says w.sees)
sound_to w Fails s going = either IsSound (is_read (next_of w.sees)) (failed w) w (λ _. record {
  below = s.below;
  told = s.told;
  answers = s.answers;
  at = s.at;
  all = s.all;
  waited = s.waited;
  unanswered = s.unanswered;
  seen = s.seen;
  gone = λ _ reads. absurd (let contrary : true ≡ false = reads in cc);
}) (λ _. s)

pub sound_on : (w : Watch) (e : Event) → IsSound w → IsSound (happens w e)
sound_on w e s = either IsSound w.gone w (happens_to w e) (λ _. s) (λ going. sound_to w e s going)

pub sound_run : (events : List Event) (w : Watch) → IsSound w → IsSound (run events w)
sound_run [] w s = s
sound_run (e ∷ events) w s = sound_run events (happens w e) (sound_on w e s)

pub comes_sound : (begins : Begins) (position stored told : ℕ) (alone : Bool) → start_of begins ≤ stored → position ≤ stored → told ≤ stored → IsSound (comes begins position stored told alone)
comes_sound begins position stored told alone from below known = record {
  below = below;
  told = known;
  answers = from;
  at = λ f. cc;
  all = λ a. cc;
  waited = λ a f. cc;
  unanswered = λ a d. cc;
  seen = λ d f. cc;
  gone = λ g _. cc;
}

nothing_due : (due : Bool) (view from stored : ℕ) → (due ≡ true → view < from) → from ≤ stored → view ≡ stored → due ≡ false
nothing_due true view from stored h l e = let below = h refl in absurd (omega arith)
nothing_due false view from stored h l e = refl

seen_all : (w : Watch) → IsSound w → w.sees.has_asked ≡ true → (w.ended ≡ true) × (w.sees.position ≡ w.stored) × (w.sees.is_fresh ≡ false) → w.view ≡ w.sees.position → EndsWith w.shown w.stored
seen_all w s asked all at =
    let here : w.view ≡ w.stored = at ∙ all.1 in
    let due = nothing_due w.due w.view w.answers_from w.stored (s.unanswered asked) s.answers here in
    subst (EndsWith w.shown) here (s.seen due all.2)

-- who was served to its end was shown all
pub shown_all : (w : Watch) → IsSound w → w.gone ≡ true → is_over w.sees ≡ false → w.sees.has_failed ≡ false → (w.sees.position ≡ w.stored) × (w.ended ≡ true) × EndsWith w.shown w.stored
shown_all w s gone served reads = elim (s.gone gone reads) [
  | inl over ↦ absurd (let contrary : true ≡ false = sym over ∙ served in cc)
  | inr rested ↦
      let all = s.all rested.0 in
      let at = s.at all.2 in
      (all.1, all.0, seen_all w s rested.1 all at)
]
