-- What no event changes.
use Rattle.std.proofs.Common.{◌≡◌, ℕ, ◌⊎◌, Bool, true, false, ◌&&◌, [], ◌∷◌, refl, sym, ◌∙◌, inl, inr, nat_le}
use Rattle.std.specs.Prelude.{if◌then◌else◌}
use Rattle.showing.specs.declared.next.Next.{Next}
use Rattle.showing.specs.declared.next.Next.TheVariants.{Want, Wait, WaitUntilAsked, HoldBack, Newest, Seek, Begin, Sleep, Show, Rest, Stop}
use Rattle.showing.specs.Table.{next_of}
use Rattle.showing.specs.Run.{Watch, Event, Commits, Tells, Asks, Closes, Ends, Leaves, Works, Lacks, Fails, answered, answered_if_due, moved_to, taken_to, asking, without_screen, done, lacked, failed, is_read, happens, happens_to, BeginsWith}
use Rattle.showing.proofs.Counting.{begins-append, begins-whole}

-- what holds in each case holds of a choice
pub either : {A : Type 0} (P : A → Type 0) (b : Bool) (x y : A) → (b ≡ true → P x) → (b ≡ false → P y) → P (if b then x else y)
either P true x y first second = first refl
either P false x y first second = second refl

-- whether an update is sent
sent_at : (asked due here : Bool) (x y : Watch)
    → ((asked ≡ true) × (due ≡ true) × (here ≡ true) × ((if asked && (due && here) then x else y) ≡ x))
    ⊎ (((if asked && (due && here) then x else y) ≡ y) × (asked ≡ true → due ≡ true → here ≡ false))
sent_at true true true x y = inl (refl, refl, refl, refl)
sent_at true true false x y = inr (refl, λ _ _. refl)
sent_at true false here x y = inr (refl, λ _ e. cc)
sent_at false due here x y = inr (refl, λ e _. cc)

pub sent : (w : Watch)
    → ((w.sees.has_asked ≡ true) × (w.due ≡ true) × (nat_le w.answers_from w.view ≡ true) × (answered_if_due w ≡ answered w))
    ⊎ ((answered_if_due w ≡ w) × (w.sees.has_asked ≡ true → w.due ≡ true → nat_le w.answers_from w.view ≡ false))
sent w = sent_at w.sees.has_asked w.due (nat_le w.answers_from w.view) (answered w) w

-- what is so of a view that is sent or isn't
pub sent_or_not : (P : Watch → Type 0) (w : Watch) → P (answered w) → P w → P (answered_if_due w)
sent_or_not P w first second = either P (w.sees.has_asked && (w.due && nat_le w.answers_from w.view)) (answered w) w (λ _. first) (λ _. second)

-- What stays the same, or only grows. A device that didn't fail in reading still hasn't.
pub record IsLater (v w : Watch) : Type 0 where
  pub begins : w.sees.begins ≡ v.sees.begins
  pub alone : w.sees.is_alone ≡ v.sees.is_alone
  pub unread : w.unread ≡ false → v.unread ≡ false
  pub reads : w.unread ≡ false → v.sees.has_failed ≡ false → w.sees.has_failed ≡ false
  pub closing : w.sees.is_closing ≡ false → v.sees.is_closing ≡ false
  pub shown : BeginsWith w.shown v.shown

same_but : (v w : Watch) → w.sees.begins ≡ v.sees.begins → w.sees.is_alone ≡ v.sees.is_alone → w.unread ≡ v.unread → w.sees.has_failed ≡ v.sees.has_failed → w.sees.is_closing ≡ v.sees.is_closing → w.shown ≡ v.shown → IsLater v w
same_but v w b a u f c s = record { begins = b; alone = a; unread = λ e. sym u ∙ e; reads = λ _ e. f ∙ e; closing = λ e. sym c ∙ e; shown = begins-whole w.shown v.shown s }

later_if_sent : (v w : Watch) → IsLater v w → IsLater v (answered_if_due w)
later_if_sent v w l = sent_or_not (IsLater v) w
    (record { begins = l.begins; alone = l.alone; unread = l.unread; reads = l.reads; closing = l.closing; shown = begins-append w.shown v.shown (w.view ∷ []) l.shown })
    l

later_taken : (v w : Watch) (count : ℕ) (changes_all : Bool) → IsLater v w → IsLater v (taken_to w count changes_all)
later_taken v w count changes_all l = later_if_sent v (moved_to w count changes_all) (record { begins = l.begins; alone = l.alone; unread = l.unread; reads = λ _ _. refl; closing = l.closing; shown = l.shown })

later_done : (w : Watch) (more : ℕ) (changes_all : Bool) (next : Next) → IsLater w (done w more changes_all next)
later_done w more changes_all (Want limit) = later_taken w w _ changes_all (same_but w w refl refl refl refl refl refl)
later_done w more changes_all Newest = later_taken w (without_screen w) _ changes_all (same_but w (without_screen w) refl refl refl refl refl refl)
later_done w more changes_all Wait =
    either (IsLater w) _ _ _ (λ _. same_but w _ refl refl refl refl refl refl)
    (λ _. either (IsLater w) w.ended _ _ (λ _. same_but w _ refl refl refl refl refl refl) (λ _. same_but w w refl refl refl refl refl refl))
later_done w more changes_all WaitUntilAsked = same_but w w refl refl refl refl refl refl
later_done w more changes_all HoldBack = same_but w _ refl refl refl refl refl refl
later_done w more changes_all Rest = either (IsLater w) _ _ _ (λ _. same_but w _ refl refl refl refl refl refl) (λ _. same_but w w refl refl refl refl refl refl)
later_done w more changes_all Stop = same_but w _ refl refl refl refl refl refl
later_done w more changes_all (Seek count) = same_but w w refl refl refl refl refl refl
later_done w more changes_all Begin = same_but w w refl refl refl refl refl refl
later_done w more changes_all (Sleep time) = same_but w w refl refl refl refl refl refl
later_done w more changes_all Show = same_but w w refl refl refl refl refl refl

later_lacked : (w : Watch) (next : Next) → IsLater w (lacked w next)
later_lacked w (Want limit) = same_but w _ refl refl refl refl refl refl
later_lacked w Newest = same_but w _ refl refl refl refl refl refl
later_lacked w Wait = same_but w w refl refl refl refl refl refl
later_lacked w WaitUntilAsked = same_but w w refl refl refl refl refl refl
later_lacked w HoldBack = same_but w w refl refl refl refl refl refl
later_lacked w Rest = same_but w w refl refl refl refl refl refl
later_lacked w Stop = same_but w w refl refl refl refl refl refl
later_lacked w (Seek count) = same_but w w refl refl refl refl refl refl
later_lacked w Begin = same_but w w refl refl refl refl refl refl
later_lacked w (Sleep time) = same_but w w refl refl refl refl refl refl
later_lacked w Show = same_but w w refl refl refl refl refl refl

later_to : (w : Watch) (e : Event) → IsLater w (happens_to w e)
later_to w Commits = either (IsLater w) w.ended _ _ (λ _. same_but w w refl refl refl refl refl refl) (λ _. same_but w _ refl refl refl refl refl refl)
later_to w Tells = same_but w _ refl refl refl refl refl refl
later_to w Asks = later_if_sent w (asking w) (same_but w (asking w) refl refl refl refl refl refl)
later_to w Closes = record { begins = refl; alone = refl; unread = λ e. e; reads = λ _ e. e; closing = λ e. cc; shown = begins-whole w.shown w.shown refl }
later_to w Ends = same_but w _ refl refl refl refl refl refl
later_to w Leaves = same_but w _ refl refl refl refl refl refl
later_to w (Works more changes_all) = later_done w more changes_all (next_of w.sees)
later_to w Lacks = later_lacked w (next_of w.sees)
later_to w Fails =
    either (IsLater w) (is_read (next_of w.sees)) (failed w) w
    (λ _. record { begins = refl; alone = refl; unread = λ e. absurd (let contrary : true ≡ false = e in cc); reads = λ e _. absurd (let contrary : true ≡ false = e in cc); closing = λ e. e; shown = begins-whole w.shown w.shown refl })
    (λ _. same_but w w refl refl refl refl refl refl)

pub later : (w : Watch) (e : Event) → IsLater w (happens w e)
later w e = either (IsLater w) w.gone w (happens_to w e) (λ _. same_but w w refl refl refl refl refl refl) (λ _. later_to w e)
