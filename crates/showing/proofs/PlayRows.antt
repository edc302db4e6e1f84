-- Just one row of the played one's table applies, and what is done next says which.
use Rattle.std.proofs.Common.{◌≡◌, ℕ, ◌⊎◌, Bool, true, false, not, ◌&&◌, ◌||◌, List, [], ◌∷◌, refl, sym, ap, ◌∙◌, subst, inl, inr, Some, ◌≤◌, ◌<◌, nat_lt, ◌-◌, ◌+◌, arith}
use Rattle.std.specs.Prelude.{is_some}
use Rattle.std.proofs.lemmas.Bool.{and_parts}
use Rattle.std.proofs.lemmas.Bool.Decides.{nat_tests}
use Rattle.showing.specs.declared.playback.Playback.{Playback}
use Rattle.showing.specs.declared.next.Next.{Next}
use Rattle.showing.specs.declared.next.Next.TheVariants.{Want, Wait, WaitUntilAsked, HoldBack, Newest, Seek, Begin, Sleep, Show, Rest, Stop}
use Rattle.showing.specs.Table.{Row, applying}
use Rattle.showing.specs.Playing.{table, next_of, last_screen, time_left, is_cut_off, is_early, is_due, has_played, stands_still, plays_again, begins_now, waits, has_more, is_there, begins_again, coming_by, goes_on, is_free}
use Rattle.showing.proofs.OneRow.{say}

-- with each test as it may be
abbrev rows_at : (left closing hand early all again stood fresh there begun more : Bool) → ℕ → ℕ → ℕ → List Row
rows_at left closing hand early all again stood fresh there begun more l time count =
    let going = not left && not closing in
    let free = going && not hand in
    let under_way = free && not all in
    let screen = under_way && not fresh in
    record { applies = left || closing; next = Stop }
    ∷ record { applies = going && (hand && early); next = Sleep time }
    ∷ record { applies = going && (hand && not early); next = Show }
    ∷ record { applies = free && (all && not again); next = Rest }
    ∷ record { applies = free && (all && (again && not stood)); next = Sleep last_screen }
    ∷ record { applies = free && (all && (again && stood)); next = Seek count }
    ∷ record { applies = under_way && fresh; next = Want 0 }
    ∷ record { applies = screen && (not there && more); next = Want l }
    ∷ record { applies = screen && (there && not begun); next = Begin }
    ∷ record { applies = screen && (there && (begun && more)); next = Want 1 }
    ∷ record { applies = screen && (not more && (not there || begun)); next = Wait }
    ∷ []

one_at : (left closing hand early all again stood fresh there begun more : Bool) (l time count : ℕ)
    → applying (rows_at left closing hand early all again stood fresh there begun more l time count) ≡ 1
one_at true closing hand early all again stood fresh there begun more l time count = refl
one_at false true hand early all again stood fresh there begun more l time count = refl
one_at false false true true all again stood fresh there begun more l time count = refl
one_at false false true false all again stood fresh there begun more l time count = refl
one_at false false false early true false stood fresh there begun more l time count = refl
one_at false false false early true true false fresh there begun more l time count = refl
one_at false false false early true true true fresh there begun more l time count = refl
one_at false false false early false again stood true there begun more l time count = refl
one_at false false false early false again stood false false begun true l time count = refl
one_at false false false early false again stood false false begun false l time count = refl
one_at false false false early false again stood false true false true l time count = refl
one_at false false false early false again stood false true false false l time count = refl
one_at false false false early false again stood false true true true l time count = refl
one_at false false false early false again stood false true true false l time count = refl

pub one_played_row : (s : Playback) → applying (table s) ≡ 1
one_played_row s = one_at s.has_left s.is_closing (is_some s.due) (nat_lt 0 (time_left s.due s.played)) s.is_at_end (begins_again s) s.has_stood s.is_fresh (is_there s) s.has_begun (has_more s)
    (coming_by s) (time_left s.due s.played) s.from

-- which row applies if this is done next, as far as it matters
abbrev Says : Playback → Next → Type 0
Says s Rest = has_played s ≡ true
Says s Stop = is_cut_off s ≡ true
Says s Show = is_due s ≡ true
Says s (Sleep time) = ((is_early s ≡ true) × (time ≡ time_left s.due s.played)) ⊎ (stands_still s ≡ true)
Says s (Seek count) = (plays_again s ≡ true) × (count ≡ s.from)
Says s (Want limit) = Unit {0}
Says s Begin = begins_now s ≡ true
Says s Wait = waits s ≡ true
Says s Newest = ⊥
Says s WaitUntilAsked = ⊥
Says s HoldBack = ⊥

says_if : (s : Playback) (next : Next) → next_of s ≡ next → Says s next
says_if s next e = subst (Says s) e (say (Says s) (table s) (one_played_row s)
    (λ e. e, (λ e. inl (e, refl), (λ e. e, (λ e. e, (λ e. inr e, (λ e. (e, refl), (λ e. tt, (λ e. tt, (λ e. e, (λ e. tt, (λ e. e, tt))))))))))))

none_left : (due played : ℕ) → nat_lt 0 (due - played) ≡ false → due ≤ played
none_left due played e = grind (arith, nat_tests)

some_left : (due played : ℕ) → nat_lt 0 (due - played) ≡ true → played < due
some_left due played e = grind (arith, nat_tests)

due_parts : (going hand early : Bool) → (going && (hand && not early)) ≡ true → (going ≡ true) × (early ≡ false)
due_parts going hand early e = grind arith

early_parts : (going hand early : Bool) → (going && (hand && early)) ≡ true → early ≡ true
early_parts going hand early e = grind arith

times_are : (s : Playback) (due played : ℕ) → s.due ≡ Some due → s.played ≡ Some played → time_left s.due s.played ≡ due - played
times_are s due played d p = rw (d, p) refl

pub shown_when_due : (s : Playback) (due played : ℕ) → next_of s ≡ Show → s.due ≡ Some due → s.played ≡ Some played → due ≤ played
shown_when_due s due played e d p =
    let parts = due_parts (goes_on s) (is_some s.due) (nat_lt 0 (time_left s.due s.played)) (says_if s Show e) in
    none_left due played (ap (λ (n : ℕ). nat_lt 0 n) (sym (times_are s due played d p)) ∙ parts.1)

free_parts : (s : Playback) (rest : Bool) → (is_free s && rest) ≡ true → is_some s.due ≡ false
free_parts s rest e = grind arith

pub sleeps_until_due : (s : Playback) (due played time : ℕ) → next_of s ≡ Sleep time → s.due ≡ Some due → s.played ≡ Some played → (played < due) × (played + time ≡ due)
sleeps_until_due s due played time e d p = elim (says_if s (Sleep time) e) [
  | inl early ↦
      let there = early_parts (goes_on s) (is_some s.due) (nat_lt 0 (time_left s.due s.played)) early.0 in
      let below = some_left due played (ap (λ (n : ℕ). nat_lt 0 n) (sym (times_are s due played d p)) ∙ there) in
      let is : time ≡ due - played = early.1 ∙ times_are s due played d p in
      (below, omega arith)
  | inr stands ↦
      let none = free_parts s (s.is_at_end && (begins_again s && not s.has_stood)) stands in
      let some : is_some s.due ≡ true = rw d refl in
      absurd (let contrary : true ≡ false = sym some ∙ none in cc)
]

wait_parts : (s : Playback) → waits s ≡ true → (has_more s ≡ false) × (s.is_at_end ≡ false) × (s.has_left ≡ false) × (s.is_closing ≡ false)
wait_parts s e = grind arith

none_more : (s : Playback) → has_more s ≡ false → s.committed ≤ s.position
none_more s e = grind (arith, nat_tests)

pub played_waits : (s : Playback) → next_of s ≡ Wait → (s.committed ≤ s.position) × (s.is_at_end ≡ false) × (s.has_left ≡ false) × (s.is_closing ≡ false)
played_waits s e = let parts = wait_parts s (says_if s Wait e) in (none_more s parts.0, parts.1, parts.2, parts.3)

-- what is played again
below_then : (a b : ℕ) → nat_lt a b ≡ true → a < b
below_then a b e = grind (arith, nat_tests)

repeats_then : (s : Playback) → begins_again s ≡ true → (s.repeats ≡ true) × (s.from < s.position)
repeats_then s e = let parts = and_parts s.repeats (nat_lt s.from s.position) e in (parts.0, below_then s.from s.position parts.1)

pub played_again : (s : Playback) (count : ℕ) → next_of s ≡ Seek count → (count ≡ s.from) × (s.from < s.position) × (s.repeats ≡ true) × (s.is_at_end ≡ true)
played_again s count e =
    let is = says_if s (Seek count) e in
    let parts = and_parts (is_free s) (s.is_at_end && (begins_again s && s.has_stood)) is.0 in
    let rest = and_parts s.is_at_end (begins_again s && s.has_stood) parts.1 in
    let again = repeats_then s (and_parts (begins_again s) s.has_stood rest.1).0 in
    (is.1, again.1, again.0, rest.0)
