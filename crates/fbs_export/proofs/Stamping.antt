-- Messages that become whole in a block have its time.
use Rattle.std.proofs.Common.{◌≡◌, ◌<◌, ◌≤◌, ◌+◌, ◌-◌, ℕ, List, [], ◌∷◌, ◌++◌, length, take, drop, replicate, slice_index, inl, inr, refl, sym, ap, ◌∙◌, arith, append_assoc, append-nil, length-append, length-drop, take-append-drop}
use Rattle.std.specs.List.{flat_map, AllByRecursion}
use Rattle.std.proofs.lemmas.Bool.{cases_lt}
use Rattle.std.proofs.lemmas.List.{get_or-replicate, get_or_append_left, get_or-append_right, map-append, drop-replicate, drop-append-le, take-append-le, take_at, drop_all, drop-drop}
use Rattle.std.proofs.Math.Seq.{drop-append-add}
use Rattle.terms.specs.Reading.{More}
use Rattle.client_wire.specs.Stream.{Part, bytes_of, IsPart, BeginsNone, given_of}
use Rattle.client_wire.proofs.Streams.{waits_begins_none}
use Rattle.terms.specs.declared.format.Format.TheVariants.{Two}
use Rattle.rfb_wire.specs.Grammar.{message_at, message_limit, Message}
use Rattle.rfb_wire.specs.Host.{Host}
use Rattle.rfb_wire.specs.Stream.{given}
use Rattle.rfb_wire.proofs.Local.{message_local}
use Rattle.rfb_wire.proofs.Whole.{message-empty}
use Rattle.keyed_entries.specs.declared.entry.Stamped.{Stamped}
use Rattle.fbs_export.specs.Summary.{at_time, stamped}

-- what is left of two lists
drop_both : (n : ℕ) (xs ys : List ℕ) → length xs ≤ n → drop n (xs ++ ys) ≡ drop (n - length xs) ys
drop_both n xs ys enough =
    ap (λ z. drop z (xs ++ ys)) (omega (arith, enough)) ∙ drop-append-add xs ys (n - length xs)

module _ (w h : ℕ) where
  abbrev Is : Part Message → Type 0
  Is = IsPart (message_at (message_limit Two) w h)

  abbrev bytes_in : List (Part Message) → List ℕ
  bytes_in parts = flat_map bytes_of parts

  abbrev hosts_in : List (Part Message) → List Host
  hosts_in parts = given_of (given Two w h) parts

  none_begins_wait : (lead : List ℕ) → message_at (message_limit Two) w h lead ≡ More → BeginsNone (message_at (message_limit Two) w h) lead
  none_begins_wait lead waits = waits_begins_none (message_at (message_limit Two) w h) (message_local (message_limit Two) w h) lead waits

  -- the first message is longer than what stood unfinished
  longer : (lead since rest : List ℕ) (p : Part Message) → message_at (message_limit Two) w h lead ≡ More → Is p → lead ++ since ≡ p.bytes ++ rest → length lead < length p.bytes
  longer lead since rest p waits is e = elim (cases_lt (length lead) (length p.bytes)) [
    | inl less ↦ less
    | inr more ↦
        (let front : take (length p.bytes) lead ≡ p.bytes =
        sym (take-append-le (length p.bytes) lead since more) ∙ ap (take (length p.bytes)) e ∙ take_at p.bytes rest (length p.bytes) refl in
        let split : lead ≡ p.bytes ++ drop (length p.bytes) lead = sym (take-append-drop (length p.bytes) lead) ∙ ap (λ z. z ++ drop (length p.bytes) lead) front in
        absurd (none_begins_wait lead waits p (drop (length p.bytes) lead) is split))
  ]

  some_part : (p : Part Message) → Is p → 0 < length p.bytes
  some_part p is = longer [] p.bytes [] p (message-empty (message_limit Two) w h) is (sym (append-nil p.bytes))

  stamped_append : (times : List ℕ) (parts new : List (Part Message))
      → stamped w h times (parts ++ new) ≡ stamped w h times parts ++ stamped w h (drop (length (bytes_in parts)) times) new
  stamped_append times [] new = refl
  stamped_append times (p ∷ parts) new =
      let first : List Stamped = at_time (slice_index times (length p.bytes - 1)) (given Two w h p.message p.bytes) in
      let following : drop (length (bytes_in parts)) (drop (length p.bytes) times) ≡ drop (length (bytes_in (p ∷ parts))) times =
      drop_drop_at (length (bytes_in parts)) (length p.bytes) times (length (bytes_in (p ∷ parts))) (omega (arith, length-append p.bytes (bytes_in parts))) in
      ap (λ z. first ++ z) (stamped_append (drop (length p.bytes) times) parts new)
      ∙ ap (λ z. first ++ (stamped w h (drop (length p.bytes) times) parts ++ stamped w h z new)) following
      ∙ sym (append_assoc first (stamped w h (drop (length p.bytes) times) parts) (stamped w h (drop (length (bytes_in (p ∷ parts))) times) new))
    where
      drop_drop_at : (m n : ℕ) (l : List ℕ) (k : ℕ) → n + m ≡ k → drop m (drop n l) ≡ drop k l
      drop_drop_at m n l k e = drop-drop m n l ∙ ap (λ z. drop z l) e

  -- times that come later say nothing of whole messages
  stamped_front : (times more : List ℕ) (parts : List (Part Message)) → AllByRecursion Is parts → length (bytes_in parts) ≤ length times
      → stamped w h (times ++ more) parts ≡ stamped w h times parts
  stamped_front times more [] all fits = refl
  stamped_front times more (p ∷ parts) all fits =
      let long = length-append p.bytes (bytes_in parts) in
      let some : 0 < length p.bytes = some_part p all.0 in
      let last : slice_index (times ++ more) (length p.bytes - 1) ≡ slice_index times (length p.bytes - 1) = get_or_append_left times more 0 (length p.bytes - 1) (omega (arith, long, some, fits)) in
      let following : drop (length p.bytes) (times ++ more) ≡ drop (length p.bytes) times ++ more = drop-append-le (length p.bytes) times more (omega (arith, long, fits)) in
      rw (last, following, stamped_front (drop (length p.bytes) times) more parts all.1 (omega (arith, long, fits, length-drop (length p.bytes) times))) refl

  at_time_append : (t : ℕ) (a b : List Host) → at_time t (a ++ b) ≡ at_time t a ++ at_time t b
  at_time_append t a b = map-append (λ m. record { time = t; message = m }) a b

  -- after an unfinished message, all that becomes whole has the block's time
  stamped_new : (times : List ℕ) (m t : ℕ) (lead since rest : List ℕ) (new : List (Part Message)) → length times ≡ length lead → length since ≡ m
      → message_at (message_limit Two) w h lead ≡ More → AllByRecursion Is new → lead ++ since ≡ bytes_in new ++ rest → stamped w h (times ++ replicate m t) new ≡ at_time t (hosts_in new)
  stamped_new times m t lead since rest [] same long waits all e = refl
  stamped_new times m t lead since rest (p ∷ new) same long waits all e =
      let n : ℕ = length p.bytes in
      let first : lead ++ since ≡ p.bytes ++ (bytes_in new ++ rest) = e ∙ append_assoc p.bytes (bytes_in new) rest in
      let less : length lead < n = longer lead since (bytes_in new ++ rest) p waits all.0 first in
      let whole = ap (λ z. length z) first in
      let sizes : length lead + length since ≡ n + length (bytes_in new ++ rest) = omega (arith, whole, length-append lead since, length-append p.bytes (bytes_in new ++ rest)) in
      let last : slice_index (times ++ replicate m t) (n - 1) ≡ t =
      get_or-append_right times (replicate m t) (length times) (n - 1) 0 refl (omega (arith, same, less)) ∙ get_or-replicate m (n - 1 - length times) t 0 (omega (arith, same, less, sizes, long)) in
      let following : drop n (times ++ replicate m t) ≡ replicate (m - (n - length times)) t = drop_both n times (replicate m t) (omega (arith, same, less)) ∙ drop-replicate (n - length times) m t in
      let others : stamped w h (replicate (m - (n - length times)) t) new ≡ at_time t (hosts_in new) =
      stamped_new [] (m - (n - length times)) t [] (bytes_in new ++ rest) rest new refl (omega (arith, sizes, same, long, less)) (message-empty (message_limit Two) w h) all.1 refl in
      rw (last, following, others) (sym (at_time_append t (given Two w h p.message p.bytes) (hosts_in new)))

  -- a block of this time ends
  pub block_stamped : (times : List ℕ) (at n t : ℕ) (parts new : List (Part Message)) (lead since rest : List ℕ) → length (bytes_in parts) + length lead ≡ length times - at
      → length since ≡ n - (at - length times) → message_at (message_limit Two) w h lead ≡ More → AllByRecursion Is parts → AllByRecursion Is new → lead ++ since ≡ bytes_in new ++ rest
      → stamped w h (drop at (times ++ replicate n t)) (parts ++ new) ≡ stamped w h (drop at times) parts ++ at_time t (hosts_in new)
  block_stamped times at n t parts new lead since rest timed long waits each all e =
      let m : ℕ = n - (at - length times) in
      let ts : List ℕ = drop at times in
      let k : ℕ = length (bytes_in parts) in
      let size : length ts ≡ k + length lead = length-drop at times ∙ sym timed in
      let tail : drop at (times ++ replicate n t) ≡ ts ++ replicate m t = times_left in
      let front : stamped w h (ts ++ replicate m t) parts ≡ stamped w h ts parts = stamped_front ts (replicate m t) parts each (omega (arith, size)) in
      let following : drop k (ts ++ replicate m t) ≡ drop k ts ++ replicate m t = drop-append-le k ts (replicate m t) (omega (arith, size)) in
      let new_ones : stamped w h (drop k ts ++ replicate m t) new ≡ at_time t (hosts_in new) =
      stamped_new (drop k ts) m t lead since rest new (omega (arith, length-drop k ts, size)) long waits all e in
      ap (λ z. stamped w h z (parts ++ new)) tail ∙ stamped_append (ts ++ replicate m t) parts new
      ∙ rw (front, following, new_ones) refl
    where
      times_left : drop at (times ++ replicate n t) ≡ drop at times ++ replicate (n - (at - length times)) t
      times_left = elim (cases_lt (length times) at) [
        | inl past ↦
            (let none : drop at times ≡ [] = drop_all at times (omega (arith, past)) in
            drop_both at times (replicate n t) (omega (arith, past)) ∙ drop-replicate (at - length times) n t ∙ ap (λ z. z ++ replicate (n - (at - length times)) t) (sym none))
        | inr within ↦
            drop-append-le at times (replicate n t) within ∙ ap (λ z. drop at times ++ replicate z t) (omega (arith, within))
      ]
