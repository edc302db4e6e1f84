-- What holds of whatever some events lead to.
use Rattle.std.proofs.Common.{◌≡◌, ℕ, Bool, true, false, not, ◌&&◌, List, [], ◌∷◌, ◌++◌, length, refl, sym, ap, ◌∙◌, subst, inl, inr, ◌≤◌, ◌<◌, ◌-◌, ◌+◌, ◌*◌}
use Rattle.showing.specs.declared.situation.Situation.{Situation}
use Rattle.showing.specs.declared.next.Next.TheVariants.{Newest}
use Rattle.showing.specs.Table.{table, next_of, far, is_live, is_over, is_unread, goes_on}
use Rattle.showing.specs.Run.{Watch, Works, Fails, moved_to, without_screen, done, failed, is_read, happens, run, turns, comes, IsReached, EndsWith}
use Rattle.showing.proofs.Rows.{one_row}
use Rattle.showing.proofs.Kept.{either, sent_or_not}
use Rattle.showing.proofs.Sound.{IsSound, sound_run, comes_sound, shown_all}
use Rattle.showing.proofs.Waits.{happens_if}
use Rattle.showing.proofs.Turns.{far_goes_to_newest, newest_shown, row_is_done, sent_at_once, always}
use Rattle.showing.proofs.Ending.{ends_shown_all}

sound_there : (w : Watch) → IsReached w → IsSound w
sound_there w r = subst IsSound (sym r.is) (sound_run r.events (comes r.begins r.position r.stored r.told r.alone) (comes_sound r.begins r.position r.stored r.told r.alone r.start r.seat r.known))

pub far_position : (w : Watch) (more : ℕ) (changes_all : Bool) → IsReached w → w.gone ≡ false → goes_on w.sees ≡ true → is_live w.sees ≡ true → far < w.sees.committed - w.sees.position
    → (happens w (Works more changes_all)).sees.position ≡ w.stored
far_position w more changes_all r goes on live l =
    ap (λ (v : Watch). v.sees.position) (happens_if w (Works more changes_all) goes ∙ ap (done w more changes_all) (far_goes_to_newest w.sees on live l))
    ∙ sent_or_not (λ (v : Watch). v.sees.position ≡ w.stored) (moved_to (without_screen w) w.stored changes_all) refl refl

pub far_shown : (w : Watch) (more : ℕ) (changes_all : Bool) → IsReached w → w.gone ≡ false → goes_on w.sees ≡ true → is_live w.sees ≡ true → far < w.sees.committed - w.sees.position
    → w.sees.has_asked ≡ true → (happens w (Works more changes_all)).shown ≡ w.shown ++ w.stored ∷ []
far_shown w more changes_all r goes on live l asked =
    ap (λ (v : Watch). v.shown) (newest_shown w more changes_all goes on live l asked (sound_there w r).answers)

pub reached_all : (w : Watch) → IsReached w → w.gone ≡ true → is_over w.sees ≡ false → w.sees.has_failed ≡ false → (w.sees.position ≡ w.stored) × (w.ended ≡ true) × EndsWith w.shown w.stored
reached_all w r = shown_all w (sound_there w r)

pub reached_ends : (w : Watch) (ts : List (ℕ × Bool)) → IsReached w → w.ended ≡ true → w.sees.has_left ≡ false → w.sees.is_alone ≡ false → w.sees.is_short ≡ false → w.sees.has_failed ≡ false
    → 4 * (w.stored - w.sees.position) + 9 ≤ length ts
    → ((run (turns ts) w).gone ≡ true) × ((run (turns ts) w).sees.position ≡ w.stored) × EndsWith (run (turns ts) w).shown w.stored
reached_ends w ts r ended left alone short reads l = ends_shown_all ts w (sound_there w r) ended left alone short reads l

-- who can't be read for is handed the newest screen
unread_at : (all over failed : Bool) → all ≡ false → over ≡ false → failed ≡ true → (not all && (not over && failed)) ≡ true
unread_at all over failed a o f = rw (a, o, f) refl

unread_to_newest : (s : Situation) → s.is_at_end ≡ false → is_over s ≡ false → s.has_failed ≡ true → next_of s ≡ Newest
unread_to_newest s all over failed =
    let row : is_unread s ≡ true = unread_at s.is_at_end (is_over s) s.has_failed all over failed in
    row_is_done (table s) (record { applies = is_unread s; next = Newest }) (one_row s) (inr (inr (inl refl))) row

pub unread_position : (w : Watch) (more : ℕ) (changes_all : Bool) → w.gone ≡ false → w.sees.has_failed ≡ true → w.sees.is_at_end ≡ false → is_over w.sees ≡ false
    → (happens w (Works more changes_all)).sees.position ≡ w.stored
unread_position w more changes_all goes failed all over =
    ap (λ (v : Watch). v.sees.position) (happens_if w (Works more changes_all) goes ∙ ap (done w more changes_all) (unread_to_newest w.sees all over failed))
    ∙ sent_or_not (λ (v : Watch). v.sees.position ≡ w.stored) (moved_to (without_screen w) w.stored changes_all) refl refl

pub unread_shown : (w : Watch) (more : ℕ) (changes_all : Bool) → IsReached w → w.gone ≡ false → w.sees.has_failed ≡ true → w.sees.is_at_end ≡ false → is_over w.sees ≡ false
    → w.sees.has_asked ≡ true → (happens w (Works more changes_all)).shown ≡ w.shown ++ w.stored ∷ []
unread_shown w more changes_all r goes failed all over asked =
    ap (λ (v : Watch). v.shown) (happens_if w (Works more changes_all) goes ∙ ap (done w more changes_all) (unread_to_newest w.sees all over failed)
    ∙ sent_at_once (without_screen w) w.stored changes_all asked (always w.due) (sound_there w r).answers)

-- whether its worker ends
pub live_goes_on : (w : Watch) → w.gone ≡ false → is_live w.sees ≡ true → (happens w Fails).gone ≡ false
live_goes_on w goes live =
    ap (λ (v : Watch). v.gone) (happens_if w Fails goes)
    ∙ either (λ (v : Watch). v.gone ≡ false) (is_read (next_of w.sees)) (failed w) w (λ _. ap not live) (λ _. goes)

pub other_ends : (w : Watch) → w.gone ≡ false → is_live w.sees ≡ false → is_read (next_of w.sees) ≡ true → (happens w Fails).gone ≡ true
other_ends w goes other read =
    ap (λ (v : Watch). v.gone) (happens_if w Fails goes)
    ∙ either (λ (v : Watch). v.gone ≡ true) (is_read (next_of w.sees)) (failed w) w (λ _. ap not other) (λ unread. absurd (let contrary : true ≡ false = sym read ∙ unread in cc))
