-- Turn after turn.
use Rattle.std.proofs.Common.{◌≡◌, ℕ, suc, ◌⊎◌, Bool, true, false, not, ◌&&◌, ◌||◌, List, [], ◌∷◌, ◌++◌, length, refl, sym, ap, ◌∙◌, inl, inr, ◌≤◌, ◌<◌, nat_lt, nat_le, min, ◌-◌, ◌+◌, append_assoc, arith}
use Rattle.std.specs.Prelude.{if◌then◌else◌}
use Rattle.std.proofs.lemmas.Bool.Decides.{nat_tests}
use Rattle.std.proofs.lemmas.List.{append-nil}
use Rattle.showing.specs.declared.begins.Begins.{Begins}
use Rattle.showing.specs.declared.begins.Begins.TheVariants.{Live, After}
use Rattle.showing.specs.declared.situation.Situation.{Situation}
use Rattle.showing.specs.declared.next.Next.TheVariants.{Want, Newest}
use Rattle.showing.specs.Table.{Row, table, applying, said_by, next_of, far, most, is_over, is_live, is_far, leaps, leaps_now, goes_on, takes_one, keeps_up, is_owed, has_more, is_shown_each}
use Rattle.showing.specs.Run.{Watch, Commits, Tells, Asks, Works, answered, moved_to, taken_to, asking, without_screen, done, happens, run, turns, as_they_come, IsUpToDate, HasAll, count_up}
use Rattle.showing.proofs.Rows.{one_row}
use Rattle.showing.proofs.Kept.{sent, either}
use Rattle.showing.proofs.Waits.{happens_if}

-- a row of the table
abbrev IsAmong : Row → List Row → Type 0
IsAmong r [] = ⊥
IsAmong r (x ∷ xs) = (x ≡ r) ⊎ IsAmong r xs

some_apply : (rows : List Row) (r : Row) → IsAmong r rows → r.applies ≡ true → 0 < applying rows
some_apply [] r among e = absurd among
some_apply (x ∷ xs) r (inl is) e = let at : x.applies ≡ true = ap (λ (y : Row). y.applies) is ∙ e in rw at (omega arith)
some_apply (x ∷ xs) r (inr among) e =
    let later = some_apply xs r among e in
    either (λ (n : ℕ). 0 < n) x.applies (suc (applying xs)) (applying xs) (λ _. omega arith) (λ _. later)

no_other : (applies : Bool) (n : ℕ) → (if applies then suc n else n) ≡ 1 → 0 < n → applies ≡ false
no_other true n e l = absurd (omega arith)
no_other false n e l = refl

-- what a row says that applies is done next
pub row_is_done : (rows : List Row) (r : Row) → applying rows ≡ 1 → IsAmong r rows → r.applies ≡ true → said_by rows ≡ r.next
row_is_done [] r one among e = absurd among
row_is_done (x ∷ xs) r one (inl is) e =
    let at : x.applies ≡ true = ap (λ (y : Row). y.applies) is ∙ e in rw at (ap (λ (y : Row). y.next) is)
row_is_done (x ∷ xs) r one (inr among) e =
    let later = some_apply xs r among e in
    let none : x.applies ≡ false = no_other x.applies (applying xs) one later in
    rw none (row_is_done xs r (rw none at one) among e)

-- It asks, and was shown all that it has.
pub asks_then : (w : Watch) → w.gone ≡ false → w.due ≡ false → happens w Asks ≡ asking w
asks_then w goes due = happens_if w Asks goes ∙ elim (sent (asking w)) [
  | inl s ↦ absurd (let contrary : true ≡ false = sym s.1 ∙ due in cc)
  | inr s ↦ s.0
]

not_there : (from view : ℕ) → from ≤ view → nat_le from view ≡ false → ⊥
not_there from view l e = grind (arith, nat_tests)

-- Who asks is sent what it is handed.
pub sent_at_once : (w : Watch) (count : ℕ) (changes_all : Bool) → w.sees.has_asked ≡ true → (moved_to w count changes_all).due ≡ true → w.answers_from ≤ count
    → taken_to w count changes_all ≡ answered (moved_to w count changes_all)
sent_at_once w count changes_all asked due from = elim (sent (moved_to w count changes_all)) [
  | inl s ↦ s.3
  | inr s ↦ absurd (not_there w.answers_from count from (s.1 asked due))
]

pub is_due : (due fresh : Bool) (p q : ℕ) → p < q → (due || (fresh || nat_lt p q)) ≡ true
is_due due fresh p q l = grind (arith, nat_tests)

-- a served viewer with a screen, who asks and lacks something
any : (owed : Bool) → ((not owed || true) && true && true) ≡ true
any true = refl
any false = refl

taking_at : (all over failed fresh owed asked answered closing leap more part : Bool) → all ≡ false → over ≡ false → failed ≡ false → fresh ≡ false → asked ≡ true → leap ≡ false → more ≡ true → part ≡ true
    → ((((not all && (not over && not failed)) && (not fresh && (not owed || ((asked || answered) || closing)))) && (not leap && more)) && part) ≡ true
taking_at all over failed fresh owed asked answered closing leap more part a o f s e l m p = rw (a, o, f, s, e, l, m, p) (any owed)

lags_then : (s : Situation) → s.position < s.committed → has_more s ≡ true
lags_then s l = grind (arith, nat_tests)

each_there : (n u : ℕ) (s : Situation) → s.begins ≡ After n u → n ≤ s.position → s.position < u → (is_shown_each s ≡ true) × (is_live s ≡ false)
each_there n u s b above below = grind (arith, nat_tests)

no_leap : (s : Situation) → is_live s ≡ false → leaps s ≡ false
no_leap s e = rw e refl

pub takes_one_next : (n u : ℕ) (s : Situation) → s.begins ≡ After n u → s.is_at_end ≡ false → is_over s ≡ false → s.has_failed ≡ false → s.is_fresh ≡ false → s.has_asked ≡ true
    → n ≤ s.position → s.position < u → u ≤ s.committed → next_of s ≡ Want 1
takes_one_next n u s b all over failed fresh asked above below known =
    let there = each_there n u s b above below in
    let row = taking_at s.is_at_end (is_over s) s.has_failed s.is_fresh (is_owed s) s.has_asked s.is_answered s.is_closing (leaps s) (has_more s) (is_shown_each s)
    all over failed fresh asked (no_leap s there.1) (lags_then s (omega arith)) there.0 in
    row_is_done (table s) (record { applies = takes_one s; next = Want 1 }) (one_row s)
    (inr (inr (inr (inr (inr (inr (inr (inr (inr (inl refl)))))))))) row

one_more : (p stored more : ℕ) → p < stored → p + min (min 1 (stored - p)) (suc more) ≡ suc p
one_more p stored more l = omega arith

-- the state in which each turn leaves it
abbrev after_turn : Watch → Bool → Watch
after_turn w changes_all = answered (moved_to (asking w) (suc w.sees.position) changes_all)

turn_of : (n u : ℕ) (w : Watch) (more : ℕ) (changes_all : Bool) → IsUpToDate w → w.sees.begins ≡ After n u → n ≤ w.sees.position → w.sees.position < u → u ≤ w.sees.committed → w.sees.committed ≤ w.stored
    → happens (happens w Asks) (Works more changes_all) ≡ after_turn w changes_all
turn_of n u w more changes_all is begins above below known stored =
    let asks = asks_then w is.goes_on is.shown in
    let next = takes_one_next n u (asking w).sees begins is.not_ended is.not_over is.reads is.shows refl above below known in
    let count = one_more w.sees.position w.stored more (omega arith) in
    let from : w.answers_from ≤ suc w.sees.position = let a = is.answers in omega arith in
    ap (λ (v : Watch). happens v (Works more changes_all)) asks
    ∙ happens_if (asking w) (Works more changes_all) is.goes_on
    ∙ ap (done (asking w) more changes_all) next
    ∙ ap (λ (c : ℕ). taken_to (asking w) c changes_all) count
    ∙ sent_at_once (asking w) (suc w.sees.position) changes_all refl (is_due w.due w.sees.is_fresh w.sees.position (suc w.sees.position) (omega arith)) from

-- memory that was short and isn't ends nothing
not_over_then : (s : Situation) (position : ℕ) (answered stale : Bool) → is_over s ≡ false
    → is_over (record s { position = position; is_fresh = false; has_asked = false; is_answered = answered; is_stale = stale; has_waited = false; is_short = false; has_failed = false }) ≡ false
not_over_then s position answered stale e = grind arith

up_to_date_then : (w : Watch) (changes_all : Bool) → IsUpToDate w → IsUpToDate (after_turn w changes_all)
up_to_date_then w changes_all is = record {
  goes_on = is.goes_on;
  not_ended = is.not_ended;
  not_over = not_over_then w.sees (suc w.sees.position) true false is.not_over;
  reads = refl;
  shows = refl;
  at = refl;
  shown = refl;
  answers = let a = is.answers in omega arith;
}

one_by_one : (shown : List ℕ) (p many : ℕ) → shown ++ suc p ∷ [] ++ count_up (suc (suc p)) many ≡ shown ++ count_up (suc p) (suc many)
one_by_one shown p many = append_assoc shown (suc p ∷ []) (count_up (suc (suc p)) many)

pub each_turn : (n u : ℕ) (w : Watch) (ts : List (ℕ × Bool)) → IsUpToDate w → w.sees.begins ≡ After n u → n ≤ w.sees.position → w.sees.position + length ts ≤ u
    → u ≤ w.sees.committed → w.sees.committed ≤ w.stored → (run (turns ts) w).shown ≡ w.shown ++ count_up (suc w.sees.position) (length ts)
each_turn n u w [] is begins above below known stored = sym (append-nil w.shown)
each_turn n u w (t ∷ ts) is begins above below known stored =
    let v = after_turn w t.1 in
    let turn = turn_of n u w t.0 t.1 is begins above (omega arith) known stored in
    let rest = each_turn n u v ts (up_to_date_then w t.1 is) begins (omega arith) (omega arith) known stored in
    ap (λ (x : Watch). (run (turns ts) x).shown) turn ∙ rest ∙ one_by_one w.shown w.sees.position (length ts)

-- a live one that lags by one message, of a screen that didn't change as a whole
no_far : (s : Situation) → s.committed ≡ suc s.position → s.is_stale ≡ false → is_live s ≡ true → leaps s ≡ false
no_far s e stale live = grind (arith, nat_tests)

pub keeps_up_next : (s : Situation) → s.is_at_end ≡ false → is_over s ≡ false → s.has_failed ≡ false → s.is_fresh ≡ false → s.has_asked ≡ true → s.is_stale ≡ false → is_live s ≡ true
    → s.committed ≡ suc s.position → next_of s ≡ Want most
keeps_up_next s all over failed fresh asked stale live known =
    let row = taking_at s.is_at_end (is_over s) s.has_failed s.is_fresh (is_owed s) s.has_asked s.is_answered s.is_closing (leaps s) (has_more s) (is_live s)
    all over failed fresh asked (no_far s known stale live) (lags_then s (omega arith)) live in
    row_is_done (table s) (record { applies = keeps_up s; next = Want most }) (one_row s)
    (inr (inr (inr (inr (inr (inr (inr (inr (inr (inr (inl refl))))))))))) row

-- one more message is committed, and told
abbrev one_known : Watch → Watch
one_known w = record w { stored = suc w.stored; sees = record w.sees { committed = suc w.stored } }

commits_then : (w : Watch) → w.gone ≡ false → w.ended ≡ false → happens (happens w Commits) Tells ≡ one_known w
commits_then w goes records =
    let e : happens w Commits ≡ record w { stored = suc w.stored } = happens_if w Commits goes ∙ rw records refl in
    ap (λ (v : Watch). happens v Tells) e ∙ happens_if (record w { stored = suc w.stored }) Tells goes

most_of_one : (p stored : ℕ) → stored ≡ suc p → p + min (min most (stored - p)) 1 ≡ suc p
most_of_one p stored e = omega arith

abbrev after_message : Watch → Bool → Watch
after_message w changes_all = asking (answered (moved_to (one_known w) (suc w.sees.position) changes_all))

message_of : (w : Watch) (changes_all : Bool) → HasAll w → is_live w.sees ≡ true
    → happens (happens (happens (happens w Commits) Tells) (Works 0 changes_all)) Asks ≡ after_message w changes_all
message_of w changes_all has live =
    let is = has.up_to_date in
    let here : suc w.stored ≡ suc w.sees.position = ap suc (sym has.here) in
    let next = keeps_up_next (one_known w).sees is.not_ended is.not_over is.reads is.shows has.asks has.not_stale live here in
    let count = most_of_one w.sees.position (suc w.stored) here in
    let from : w.answers_from ≤ suc w.sees.position = let a = is.answers in omega arith in
    let worked : happens (one_known w) (Works 0 changes_all) ≡ answered (moved_to (one_known w) (suc w.sees.position) changes_all) =
    happens_if (one_known w) (Works 0 changes_all) is.goes_on
    ∙ ap (done (one_known w) 0 changes_all) next
    ∙ ap (λ (c : ℕ). taken_to (one_known w) c changes_all) count
    ∙ sent_at_once (one_known w) (suc w.sees.position) changes_all has.asks (is_due w.due w.sees.is_fresh w.sees.position (suc w.sees.position) (omega arith)) from in
    ap (λ (v : Watch). happens (happens v (Works 0 changes_all)) Asks) (commits_then w is.goes_on has.records)
    ∙ ap (λ (v : Watch). happens v Asks) worked
    ∙ asks_then (answered (moved_to (one_known w) (suc w.sees.position) changes_all)) is.goes_on refl

not_over_asked : (s : Situation) (position committed : ℕ) → is_over s ≡ false
    → is_over (record s { position = position; committed = committed; is_fresh = false; has_asked = true; is_answered = true; is_stale = false; has_waited = false; is_short = false; has_failed = false }) ≡ false
not_over_asked s position committed e = grind arith

all_then : (w : Watch) (changes_all : Bool) → HasAll w → HasAll (after_message w changes_all)
all_then w changes_all has =
    let is = has.up_to_date in record {
      up_to_date = record {
        goes_on = is.goes_on;
        not_ended = is.not_ended;
        not_over = not_over_asked w.sees (suc w.sees.position) (suc w.stored) is.not_over;
        reads = refl;
        shows = refl;
        at = refl;
        shown = refl;
        answers = let a = is.answers in omega arith;
      };
      asks = refl;
      waits = refl;
      not_stale = refl;
      here = ap suc has.here;
      records = has.records;
    }

live_on : (begins : Begins) (s t : Situation) → s.begins ≡ begins → t.begins ≡ begins → t.position ≡ suc s.position → is_live s ≡ true → is_live t ≡ true
live_on Live s t b c e live = rw c refl
live_on (After from each_until) s t b c e live = grind (arith, nat_tests)

pub each_message : (w : Watch) (changes : List Bool) → HasAll w → is_live w.sees ≡ true → (run (as_they_come changes) w).shown ≡ w.shown ++ count_up (suc w.stored) (length changes)
each_message w [] has live = sym (append-nil w.shown)
each_message w (c ∷ changes) has live =
    let v = after_message w c in
    let rest = each_message v changes (all_then w c has) (live_on w.sees.begins w.sees v.sees refl refl refl live) in
    let here : suc w.sees.position ≡ suc w.stored = ap suc has.here in
    let shown : w.shown ++ suc w.sees.position ∷ [] ++ count_up (suc (suc w.stored)) (length changes) ≡ w.shown ++ count_up (suc w.stored) (suc (length changes)) =
    rw here (one_by_one w.shown w.stored (length changes)) in
    ap (λ (x : Watch). (run (as_they_come changes) x).shown) (message_of w c has live) ∙ rest ∙ shown

-- a live one that lags by far
far_leaps : (s : Situation) → is_live s ≡ true → far < s.committed - s.position → (leaps s ≡ true) × (is_far s ≡ true)
far_leaps s live l = grind (arith, nat_tests)

pub far_goes_to_newest : (s : Situation) → goes_on s ≡ true → is_live s ≡ true → far < s.committed - s.position → next_of s ≡ Newest
far_goes_to_newest s on live l =
    let leap = far_leaps s live l in
    let row : leaps_now s ≡ true = rw (on, leap.0, leap.1) refl in
    row_is_done (table s) (record { applies = leaps_now s; next = Newest }) (one_row s) (inr (inr (inr (inr (inr (inr (inl refl))))))) row

pub always : (due : Bool) → (due || true) ≡ true
always true = refl
always false = refl

-- it stands after all that are committed, and is shown that if it asks
pub newest_shown : (w : Watch) (more : ℕ) (changes_all : Bool) → w.gone ≡ false → goes_on w.sees ≡ true → is_live w.sees ≡ true → far < w.sees.committed - w.sees.position → w.sees.has_asked ≡ true → w.answers_from ≤ w.stored
    → happens w (Works more changes_all) ≡ answered (moved_to (without_screen w) w.stored changes_all)
newest_shown w more changes_all goes on live l asked from =
    happens_if w (Works more changes_all) goes
    ∙ ap (done w more changes_all) (far_goes_to_newest w.sees on live l)
    ∙ sent_at_once (without_screen w) w.stored changes_all asked (always w.due) from
