-- What a screen shows after more messages, and which message is the next.
use Rattle.std.proofs.Common.{◌≡◌, ℕ, zero, suc, ◌+◌, List, [], ◌∷◌, ◌++◌, length, take, drop, Some, refl, sym, subst, ◌∙◌, ap, arith, length-append}
use Rattle.std.specs.List.{slice_get}
use Rattle.std.proofs.lemmas.List.{map-append}
use Rattle.gated_journal.specs.Recording.{Head}
use Rattle.keyed_entries.specs.Host.{Host}
use Rattle.keyed_entries.specs.Framebuffer.{Framebuffer, SameSize, Shows}
use Rattle.keyed_entries.specs.declared.entry.Stamped.{Stamped}
use Rattle.keyed_entries.specs.Entry.{message_of, hosts_of}
use Rattle.keyed_entries.proofs.Painting.{shown_more}
use Rattle.replay.specs.Screens.{IsScreenAt}

take_none : {X : Type 0} (n : ℕ) → take {A = X} n [] ≡ []
take_none {X} zero = refl
take_none {X} (suc n) = refl

take_more : {X : Type 0} (n m : ℕ) (xs : List X) → take (n + m) xs ≡ take n xs ++ take m (drop n xs)
take_more {X} zero m xs =
    let none : 0 + m ≡ m = omega arith in
    ap (λ k. take k xs) none
take_more {X} (suc n) m [] =
    let one : suc n + m ≡ suc (n + m) = omega arith in
    let none : take {A = X} m [] ≡ [] = take_none m in
    ap (λ k. take {A = X} k []) one ∙ sym none
take_more {X} (suc n) m (x ∷ xs) =
    let one : suc n + m ≡ suc (n + m) = omega arith in
    ap (λ k. take k (x ∷ xs)) one ∙ ap (λ t. x ∷ t) (take_more n m xs)

-- the messages after those that were painted are painted
pub shown_with : (screen : Framebuffer) (n count : ℕ) (all read : List Stamped) → read ≡ take count (drop n all) → Shows screen (hosts_of (take n all) ++ hosts_of read)
    → Shows screen (hosts_of (take (n + count) all))
shown_with screen n count all read is shows =
    let painted : take (n + count) all ≡ take n all ++ read = take_more n count all ∙ ap (λ t. take n all ++ t) (sym is) in
    subst (λ hosts. Shows screen hosts) (sym (ap hosts_of painted ∙ map-append message_of (take n all) read)) shows

-- the message after the first n, taken off a list of it alone
only_one : (x s : Stamped) (left : List Stamped) → x ∷ [] ≡ left ++ s ∷ [] → x ≡ s
only_one x s [] e = cc
only_one x s (l ∷ left) e = absurd (omega (arith, ap length e, length-append left (s ∷ [])))

pub message_after : (all : List Stamped) (n : ℕ) (s : Stamped) (left read : List Stamped) → read ≡ take 1 (drop n all) → read ≡ left ++ s ∷ [] → slice_get all n ≡ Some s
message_after [] zero s left read is popped = absurd (omega (arith, ap length is, ap length popped, length-append left (s ∷ [])))
message_after [] (suc n) s left read is popped = absurd (omega (arith, ap length is, ap length popped, length-append left (s ∷ [])))
message_after (x ∷ all) zero s left read is popped = ap Some (only_one x s left (sym is ∙ popped))
message_after (x ∷ all) (suc n) s left read is popped = message_after all n s left read is popped

-- the screen after one message more
pub screen_more : (head : Head) (all : List Stamped) (n : ℕ) (s : Stamped) (old new : Framebuffer) → slice_get all n ≡ Some s → IsScreenAt head all n old → SameSize old new
    → ((before : List Host) → Shows old before → Shows new (before ++ s.message ∷ [])) → IsScreenAt head all (n + 1) new
screen_more head all n s old new here at size paints = record {
  width_is = size.width ∙ at.width_is;
  height_is = size.height ∙ at.height_is;
  shows = shown_more new [] all n s here (paints (hosts_of (take n all)) at.shows);
}
