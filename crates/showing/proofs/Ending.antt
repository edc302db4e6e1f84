-- Who stays and asks comes to the end.
use Rattle.std.proofs.Common.{◌≡◌, ℕ, suc, ◌⊎◌, Bool, true, false, not, ◌&&◌, ◌||◌, List, [], ◌∷◌, length, refl, sym, ap, ◌∙◌, subst, inl, inr, ◌≤◌, ◌<◌, nat_lt, min, ◌-◌, ◌+◌, ◌*◌, arith}
use Rattle.std.specs.Prelude.{if◌then◌else◌}
use Rattle.std.proofs.lemmas.Bool.{and_parts}
use Rattle.std.proofs.lemmas.Bool.Decides.{nat_tests}
use Rattle.showing.specs.declared.begins.Begins.{Begins}
use Rattle.showing.specs.declared.begins.Begins.TheVariants.{Live, After}
use Rattle.showing.specs.declared.situation.Situation.{Situation}
use Rattle.showing.specs.declared.next.Next.{Next}
use Rattle.showing.specs.declared.next.Next.TheVariants.{Want, Wait, WaitUntilAsked, HoldBack, Newest, Seek, Begin, Sleep, Show, Rest, Stop}
use Rattle.showing.specs.Table.{next_of, is_over, is_coming, is_shown_each, is_live, is_far, leaps, goes_on, takes_more, coming_by, may_go_on, has_more, starts_at_position, starts_at_newest, is_unread}
use Rattle.showing.specs.Run.{Watch, Event, Asks, Works, answered_if_due, moved_to, taken_to, asking, without_screen, woken, told_the_end, waited, rested, done, happens, happens_to, run, turns, EndsWith}
use Rattle.showing.proofs.Says.{Says}
use Rattle.showing.proofs.Means.{HasScreen, taking}
use Rattle.showing.proofs.Kept.{sent, sent_or_not, either}
use Rattle.showing.proofs.Sound.{IsSound, sound_on, lagging, on_wait, on_want, on_newest, shown_all}
use Rattle.showing.proofs.Waits.{happens_if, says_if, waits_until_asked, is_held_until_asked}

abbrev bit : Bool → ℕ
bit true = 1
bit false = 0

-- how far it is from the end, at most, in turns
abbrev size_at : Bool → ℕ → Bool → Bool → Bool → ℕ
size_at true lacking fresh waited due = 1 + bit due
size_at false lacking fresh waited due = 3 + 4 * lacking + 4 * bit fresh + bit (not waited) + bit due

abbrev pub size : Watch → ℕ
size w = size_at w.sees.is_at_end (w.stored - w.sees.position) w.sees.is_fresh w.sees.has_waited w.due

-- nothing more is recorded, there is a host, and the viewer stays
pub record IsAttended (stored : ℕ) (w : Watch) : Type 0 where
  pub same : w.stored ≡ stored
  pub ended : w.ended ≡ true
  pub stays : w.sees.has_left ≡ false
  pub hosted : w.sees.is_alone ≡ false
  pub has_memory : w.sees.is_short ≡ false
  pub reads : w.sees.has_failed ≡ false

attended_sent : (stored : ℕ) (w : Watch) → IsAttended stored w → IsAttended stored (answered_if_due w)
attended_sent stored w a = sent_or_not (IsAttended stored) w
    (record { same = a.same; ended = a.ended; stays = a.stays; hosted = a.hosted; has_memory = a.has_memory; reads = a.reads }) a

attended_done : (stored : ℕ) (w : Watch) (more : ℕ) (changes_all : Bool) (next : Next) → IsAttended stored w → IsAttended stored (done w more changes_all next)
attended_done stored w more changes_all (Want limit) a =
    let count = w.sees.position + min (min limit (w.stored - w.sees.position)) (suc more) in
    attended_sent stored (moved_to w count changes_all) (record { same = a.same; ended = a.ended; stays = a.stays; hosted = a.hosted; has_memory = refl; reads = refl })
attended_done stored w more changes_all Newest a =
    attended_sent stored (moved_to (without_screen w) w.stored changes_all) (record { same = a.same; ended = a.ended; stays = a.stays; hosted = a.hosted; has_memory = refl; reads = refl })
attended_done stored w more changes_all Wait a =
    either (IsAttended stored) (nat_lt w.sees.position w.stored) (woken w) (if w.ended then told_the_end w else w)
    (λ _. record { same = a.same; ended = a.ended; stays = a.stays; hosted = a.hosted; has_memory = a.has_memory; reads = a.reads })
    (λ _. either (IsAttended stored) w.ended (told_the_end w) w
    (λ _. record { same = a.same; ended = a.ended; stays = a.stays; hosted = a.hosted; has_memory = a.has_memory; reads = a.reads }) (λ _. a))
attended_done stored w more changes_all WaitUntilAsked a = a
attended_done stored w more changes_all HoldBack a = record { same = a.same; ended = a.ended; stays = a.stays; hosted = a.hosted; has_memory = a.has_memory; reads = a.reads }
attended_done stored w more changes_all Rest a =
    either (IsAttended stored) (w.sees.has_left || (w.sees.has_asked && (not w.sees.is_alone || w.sees.is_closing))) (record w { gone = true }) w
    (λ _. record { same = a.same; ended = a.ended; stays = a.stays; hosted = a.hosted; has_memory = a.has_memory; reads = a.reads }) (λ _. a)
attended_done stored w more changes_all Stop a = record { same = a.same; ended = a.ended; stays = a.stays; hosted = a.hosted; has_memory = a.has_memory; reads = a.reads }
attended_done stored w more changes_all (Seek count) a = a
attended_done stored w more changes_all Begin a = a
attended_done stored w more changes_all (Sleep time) a = a
attended_done stored w more changes_all Show a = a

attended_works : (stored : ℕ) (w : Watch) (more : ℕ) (changes_all : Bool) → IsAttended stored w → IsAttended stored (happens w (Works more changes_all))
attended_works stored w more changes_all a = either (IsAttended stored) w.gone w (happens_to w (Works more changes_all)) (λ _. a) (λ _. attended_done stored w more changes_all (next_of w.sees) a)

attended_asks : (stored : ℕ) (w : Watch) → IsAttended stored w → IsAttended stored (happens w Asks)
attended_asks stored w a = either (IsAttended stored) w.gone w (happens_to w Asks) (λ _. a)
    (λ _. attended_sent stored (asking w) (record { same = a.same; ended = a.ended; stays = a.stays; hosted = a.hosted; has_memory = a.has_memory; reads = a.reads }))

-- what a turn of the worker comes to
abbrev Shrinks : Watch → Watch → Type 0
Shrinks v w = (v.gone ≡ true) ⊎ ((size v < size w) ⊎ ((size v ≤ size w) × (w.sees.has_asked ≡ false)))

bit_within : (b : Bool) → bit b ≤ 1
bit_within true = omega arith
bit_within false = omega arith

size_moved : (w : Watch) (count : ℕ) (changes_all : Bool) → w.sees.is_at_end ≡ false → size (taken_to w count changes_all) ≤ 5 + 4 * (w.stored - count)
size_moved w count changes_all on =
    let v = moved_to w count changes_all in
    sent_or_not (λ (x : Watch). size x ≤ 5 + 4 * (w.stored - count)) v
    (rw on (omega arith))
    (rw on (let one = bit_within v.due in omega arith))

size_fresh : (w : Watch) → w.sees.is_at_end ≡ false → w.sees.is_fresh ≡ true → 7 + 4 * (w.stored - w.sees.position) ≤ size w
size_fresh w on fresh = rw (on, fresh) (omega arith)

size_some : (w : Watch) → w.sees.is_at_end ≡ false → 3 + 4 * (w.stored - w.sees.position) ≤ size w
size_some w on = rw on (omega arith)

coming_live : (s : Situation) → s.begins ≡ Live → is_coming s ≡ true → ⊥
coming_live s b e = let none : is_coming s ≡ false = rw b refl in let contrary : true ≡ false = sym e ∙ none in cc

more_or_woken : (s : Situation) → has_more s ≡ true → (s.position < s.committed) ⊎ (s.has_waited ≡ true)
more_or_woken s e = grind (arith, nat_tests)

not_woken : (s : Situation) → has_more s ≡ false → s.has_waited ≡ false
not_woken s e = grind arith

fresh_at : (s : Situation) → starts_at_position s ≡ true → s.is_fresh ≡ true
fresh_at s e = grind arith

fresh_newest_at : (s : Situation) → starts_at_newest s ≡ true → s.is_fresh ≡ true
fresh_newest_at s e = grind arith

unread_failed : (s : Situation) → s.has_failed ≡ false → is_unread s ≡ true → ⊥
unread_failed s reads e = grind arith

not_asked : (left asked alone closing : Bool) → alone ≡ false → (left || (asked && (not alone || closing))) ≡ false → asked ≡ false
not_asked left asked alone closing hosted e = grind arith

-- it is handed messages, of which there are some
away_then : (begins : Begins) (s : Situation) → s.begins ≡ begins → is_coming s ≡ true → 0 < coming_by s
away_then Live s b e = absurd (coming_live s b e)
away_then (After from each_until) s b e = grind (arith, nat_tests)

more_then : (w : Watch) → IsSound w → HasScreen w.sees → has_more w.sees ≡ true → w.sees.position < w.stored
more_then w s screen more = elim (more_or_woken w.sees more) [
  | inl l ↦ let told = s.told in omega arith
  | inr woken ↦ s.waited woken screen.3
]

hands_some : (w : Watch) (limit : ℕ) → IsSound w → Says w.sees (Want limit) → (w.sees.is_fresh ≡ true) ⊎ ((0 < limit) × (w.sees.position < w.stored))
hands_some w limit s (inl (e, l)) = inl (fresh_at w.sees e)
hands_some w limit s (inr (inl (e, l))) =
    let parts = and_parts (takes_more w.sees) (is_coming w.sees) e in
    let taken = taking w.sees parts.0 in
    let some = away_then w.sees.begins w.sees refl parts.1 in
    inr (rw l some, more_then w s taken.0 taken.3)
hands_some w limit s (inr (inr (inl (e, l)))) =
    let taken = taking w.sees (and_parts (takes_more w.sees) (is_shown_each w.sees) e).0 in
    inr (omega arith, more_then w s taken.0 taken.3)
hands_some w limit s (inr (inr (inr (e, l)))) =
    let taken = taking w.sees (and_parts (takes_more w.sees) (is_live w.sees) e).0 in
    inr (omega arith, more_then w s taken.0 taken.3)

count_on : (p limit stored more : ℕ) → 0 < limit → p < stored → suc (stored - (p + min (min limit (stored - p)) (suc more))) ≤ stored - p
count_on p limit stored more l below = omega arith

no_more_lacking : (p q stored : ℕ) → p ≤ q → stored - q ≤ stored - p
no_more_lacking p q stored l = omega arith

want_shrinks : (w : Watch) (more : ℕ) (changes_all : Bool) (limit : ℕ) → IsSound w → Says w.sees (Want limit) → Shrinks (done w more changes_all (Want limit)) w
want_shrinks w more changes_all limit s e =
    let on = on_want w.sees limit e in
    let count = w.sees.position + min (min limit (w.stored - w.sees.position)) (suc more) in
    let moved = size_moved w count changes_all on in
    elim (hands_some w limit s e) [
      | inl fresh ↦ let before = size_fresh w on fresh in
          let lacking = no_more_lacking w.sees.position count w.stored (omega arith) in inr (inl (omega (arith, moved, before, lacking)))
      | inr some ↦ let before = size_some w on in
          let lacking = count_on w.sees.position limit w.stored more some.0 some.1 in inr (inl (omega (arith, moved, before, lacking)))
    ]

-- the newest screen is further on, or the first
newest_is_on : (w : Watch) → IsSound w → w.sees.has_failed ≡ false → Says w.sees Newest → (w.sees.is_fresh ≡ true) ⊎ (w.sees.position < w.stored)
newest_is_on w s reads (inl e) = absurd (unread_failed w.sees reads e)
newest_is_on w s reads (inr (inl e)) = inl (fresh_newest_at w.sees e)
newest_is_on w s reads (inr (inr e)) =
    let parts = and_parts (goes_on w.sees) (leaps w.sees && (is_far w.sees || may_go_on w.sees)) e in
    let lags_there = lagging w.sees (and_parts (leaps w.sees) (is_far w.sees || may_go_on w.sees) parts.1).0 in
    let told = s.told in
    inr (omega arith)

newest_shrinks : (w : Watch) (more : ℕ) (changes_all : Bool) → IsSound w → w.sees.has_failed ≡ false → Says w.sees Newest → Shrinks (done w more changes_all Newest) w
newest_shrinks w more changes_all s reads e =
    let on = on_newest w.sees e in
    let moved = size_moved (without_screen w) w.stored changes_all on in
    elim (newest_is_on w s reads e) [
      | inl fresh ↦ let before = size_fresh w on fresh in inr (inl (omega (arith, moved, before)))
      | inr below ↦ let before = size_some w on in inr (inl (omega (arith, moved, before)))
    ]

wait_shrinks : (w : Watch) → w.ended ≡ true → Says w.sees Wait → Shrinks (waited w) w
wait_shrinks w ended e =
    let has = on_wait w.sees e in
    let unwoken = not_woken w.sees has.1 in
    either (λ (v : Watch). Shrinks v w) (nat_lt w.sees.position w.stored) (woken w) (if w.ended then told_the_end w else w)
    (λ _. inr (inl (rw (has.0.0, unwoken) (omega arith))))
    (λ _. either (λ (v : Watch). Shrinks v w) w.ended (told_the_end w) w
    (λ _. inr (inl (rw has.0.0 (let one = bit_within w.due in omega arith))))
    (λ goes_on. absurd (let contrary : true ≡ false = sym ended ∙ goes_on in cc)))

rest_shrinks : (stored : ℕ) (w : Watch) → IsAttended stored w → Shrinks (rested w) w
rest_shrinks stored w a =
    either (λ (v : Watch). Shrinks v w) (w.sees.has_left || (w.sees.has_asked && (not w.sees.is_alone || w.sees.is_closing))) (record w { gone = true }) w
    (λ _. inl refl)
    (λ stays. inr (inr (omega arith, not_asked w.sees.has_left w.sees.has_asked w.sees.is_alone w.sees.is_closing a.hosted stays)))

done_shrinks : (stored : ℕ) (w : Watch) (more : ℕ) (changes_all : Bool) (next : Next) → IsSound w → IsAttended stored w → next_of w.sees ≡ next → Shrinks (done w more changes_all next) w
done_shrinks stored w more changes_all (Want limit) s a is = want_shrinks w more changes_all limit s (says_if w.sees (Want limit) is)
done_shrinks stored w more changes_all Newest s a is = newest_shrinks w more changes_all s a.reads (says_if w.sees Newest is)
done_shrinks stored w more changes_all Wait s a is = wait_shrinks w a.ended (says_if w.sees Wait is)
done_shrinks stored w more changes_all WaitUntilAsked s a is = inr (inr (omega arith, (waits_until_asked w.sees is).0))
done_shrinks stored w more changes_all HoldBack s a is = inr (inr (omega arith, (is_held_until_asked w.sees is).0))
done_shrinks stored w more changes_all Rest s a is = rest_shrinks stored w a
done_shrinks stored w more changes_all Stop s a is = inl refl
done_shrinks stored w more changes_all (Seek count) s a is = absurd (says_if w.sees (Seek count) is)
done_shrinks stored w more changes_all Begin s a is = absurd (says_if w.sees Begin is)
done_shrinks stored w more changes_all (Sleep time) s a is = absurd (says_if w.sees (Sleep time) is)
done_shrinks stored w more changes_all Show s a is = absurd (says_if w.sees Show is)

works_shrinks : (stored : ℕ) (w : Watch) (more : ℕ) (changes_all : Bool) → IsSound w → IsAttended stored w → w.gone ≡ false → Shrinks (happens w (Works more changes_all)) w
works_shrinks stored w more changes_all s a goes =
    subst (λ (v : Watch). Shrinks v w) (sym (happens_if w (Works more changes_all) goes)) (done_shrinks stored w more changes_all (next_of w.sees) s a refl)

-- asking makes it no larger, and smaller if it is answered
abbrev IsAskedBy : Watch → Watch → Type 0
IsAskedBy v w = (v.gone ≡ false) × (((v.sees.has_asked ≡ true) × (size v ≤ size w)) ⊎ (size v < size w))

size_due : (all : Bool) (lacking : ℕ) (fresh waited : Bool) → size_at all lacking fresh waited false < size_at all lacking fresh waited true
size_due true lacking fresh waited = omega arith
size_due false lacking fresh waited = omega arith

asks_shrinks : (w : Watch) → w.gone ≡ false → IsAskedBy (happens w Asks) w
asks_shrinks w goes =
    let P : Watch → Type 0 = λ v. IsAskedBy v w in
    subst P (sym (happens_if w Asks goes)) (elim (sent (asking w)) [
      | inl s ↦ subst P (sym s.3) (goes, inr (let due : w.due ≡ true = s.1 in rw due (size_due w.sees.is_at_end (w.stored - w.sees.position) w.sees.is_fresh w.sees.has_waited)))
      | inr s ↦ subst P (sym s.0) (goes, inl (refl, omega arith))
    ])

turn_shrinks : (stored : ℕ) (w : Watch) (more : ℕ) (changes_all : Bool) → IsSound w → IsAttended stored w → w.gone ≡ false
    → ((happens (happens w Asks) (Works more changes_all)).gone ≡ true) ⊎ (size (happens (happens w Asks) (Works more changes_all)) < size w)
turn_shrinks stored w more changes_all s a goes =
    let v = happens w Asks in
    let asked = asks_shrinks w goes in
    elim (works_shrinks stored v more changes_all (sound_on w Asks s) (attended_asks stored w a) asked.0) [
      | inl gone ↦ inl gone
      | inr (inl less) ↦ inr (elim asked.1 [ inl same ↦ omega (arith, same.1, less) | inr fewer ↦ omega arith ])
      | inr (inr none) ↦ inr (elim asked.1 [ inl same ↦ absurd (let contrary : true ≡ false = sym same.0 ∙ none.1 in cc) | inr fewer ↦ omega (arith, none.0) ])
    ]

gone_stays : (w : Watch) (e : Event) → w.gone ≡ true → happens w e ≡ w
gone_stays w e gone = rw gone refl

gone_for_good : (w : Watch) (events : List Event) → w.gone ≡ true → run events w ≡ w
gone_for_good w [] gone = refl
gone_for_good w (e ∷ events) gone = ap (run events) (gone_stays w e gone) ∙ gone_for_good w events gone

size_positive : (all : Bool) (lacking : ℕ) (fresh waited due : Bool) → 0 < size_at all lacking fresh waited due
size_positive true lacking fresh waited due = omega arith
size_positive false lacking fresh waited due = omega arith

size_below : (all : Bool) (lacking : ℕ) (fresh waited due : Bool) → size_at all lacking fresh waited due ≤ 4 * lacking + 9
size_below true lacking fresh waited due = let one = bit_within due in omega arith
size_below false lacking fresh waited due =
    let one = bit_within due in let two = bit_within fresh in let three = bit_within (not waited) in omega arith

-- it ends, as all of it is attended to
record IsEnded (stored : ℕ) (v : Watch) : Type 0 where
  pub gone : v.gone ≡ true
  pub sound : IsSound v
  pub attended : IsAttended stored v

gone_ends : (stored : ℕ) (ts : List (ℕ × Bool)) (w : Watch) → IsSound w → IsAttended stored w → w.gone ≡ true → IsEnded stored (run (turns ts) w)
gone_ends stored ts w s a gone = subst (IsEnded stored) (sym (gone_for_good w (turns ts) gone)) (record { gone = gone; sound = s; attended = a })

is_or_not : (b : Bool) → (b ≡ true) ⊎ (b ≡ false)
is_or_not true = inl refl
is_or_not false = inr refl

ends_by_turns : (stored : ℕ) (ts : List (ℕ × Bool)) (w : Watch) → IsSound w → IsAttended stored w → size w ≤ length ts → IsEnded stored (run (turns ts) w)
ends_by_turns stored [] w s a l = absurd (let some = size_positive w.sees.is_at_end (w.stored - w.sees.position) w.sees.is_fresh w.sees.has_waited w.due in omega arith)
ends_by_turns stored (t ∷ ts) w s a l =
    let v = happens (happens w Asks) (Works t.0 t.1) in
    let sound = sound_on (happens w Asks) (Works t.0 t.1) (sound_on w Asks s) in
    let attended = attended_works stored (happens w Asks) t.0 t.1 (attended_asks stored w a) in
    elim (is_or_not w.gone) [
      | inl gone ↦ gone_ends stored (t ∷ ts) w s a gone
      | inr goes ↦ elim (turn_shrinks stored w t.0 t.1 s a goes) [
        | inl gone ↦ gone_ends stored ts v sound attended gone
        | inr less ↦ ends_by_turns stored ts v sound attended (omega arith)
      ]
    ]

attended_over : (s : Situation) → s.has_left ≡ false → s.is_alone ≡ false → s.is_short ≡ false → is_over s ≡ false
attended_over s left alone short = grind arith

pub ends_shown_all : (ts : List (ℕ × Bool)) (w : Watch) → IsSound w → w.ended ≡ true → w.sees.has_left ≡ false → w.sees.is_alone ≡ false → w.sees.is_short ≡ false → w.sees.has_failed ≡ false
    → 4 * (w.stored - w.sees.position) + 9 ≤ length ts
    → ((run (turns ts) w).gone ≡ true) × ((run (turns ts) w).sees.position ≡ w.stored) × EndsWith (run (turns ts) w).shown w.stored
ends_shown_all ts w s ended left alone short reads l =
    let a : IsAttended w.stored w = record { same = refl; ended = ended; stays = left; hosted = alone; has_memory = short; reads = reads } in
    let within = size_below w.sees.is_at_end (w.stored - w.sees.position) w.sees.is_fresh w.sees.has_waited w.due in
    let v = run (turns ts) w in
    let e = ends_by_turns w.stored ts w s a (omega arith) in
    let all = shown_all v e.sound e.gone (attended_over v.sees e.attended.stays e.attended.hosted e.attended.has_memory) e.attended.reads in
    (e.gone, all.0 ∙ e.attended.same, subst (EndsWith v.shown) e.attended.same all.2)
