-- The message that bytes begin with, by the update that their front begins with.
use Rattle.std.proofs.Common.{◌≡◌, ℕ, ◌-◌, ◌<◌, ◌≤◌, true, false, List, [], ◌∷◌, ◌++◌, length, take, drop, nat_eq, nat_lt, inl, inr, slice_index, refl, sym, ap, ◌∙◌, arith, eq-eqb, length-append}
use Rattle.std.specs.Prelude.{min}
use Rattle.std.proofs.lemmas.List.{take_all, take_at, length-take, get_or-take}
use Rattle.std.proofs.lemmas.Bool.{ltb-true, ltb-false}
use Rattle.terms.specs.Reading.{Got, More, Bad, field, within}
use Rattle.terms.proofs.Readings.{true_or_false, within-short, within-long}
use Rattle.terms.proofs.Sizes.{are_limits}
use Rattle.terms.specs.declared.format.Format.{Format}
use Rattle.rfb_wire.specs.declared.message.Rectangle.{Rectangle}
use Rattle.terms.specs.declared.wire_fault.WireFault.{WireFault}
use Rattle.terms.specs.declared.wire_fault.WireFault.TheVariants as faults
use Rattle.rfb_wire.specs.Grammar.{update_at, message_at, other_at, Message, Recorded, message_limit}
use Rattle.rfb_wire.specs.Host.{host_of, IsRecorded}
use Rattle.rfb_wire.proofs.Messages.{update_read, message_is_read}
use Rattle.rfb_wire.proofs.Turns.{message-first}

pub kind_short : (limit width height : ℕ) (bytes : List ℕ) → field {E = WireFault} 1 bytes ≡ More → message_at limit width height bytes ≡ More
unfolding message_at
kind_short limit width height bytes e = rw e refl

pub kind_other : (limit width height : ℕ) (bytes kind rest : List ℕ) → field {E = WireFault} 1 bytes ≡ Got kind rest → nat_eq (slice_index kind 0) 0 ≡ false
    → message_at limit width height bytes ≡ other_at (slice_index kind 0) rest
unfolding message_at
kind_other limit width height bytes kind rest e other = rw (e, other) refl

kind_update : (limit width height : ℕ) (bytes : List ℕ) → 0 < length bytes → slice_index bytes 0 ≡ 0
    → message_at limit width height bytes ≡ within limit faults.TooLong (update_at width height) bytes
kind_update limit width height [] some is = absurd (omega arith)
kind_update limit width height (b ∷ bytes) some is =
    let zero : nat_eq b 0 ≡ true = eq-eqb b 0 is in
    message-first limit width height b bytes ∙ rw zero refl

pub front_long : (limit width height : ℕ) (bytes : List ℕ) → 0 < length bytes → slice_index bytes 0 ≡ 0
    → update_at width height (take limit bytes) ≡ More → limit < length bytes → message_at limit width height bytes ≡ Bad faults.TooLong
front_long limit width height bytes some is waits long =
    kind_update limit width height bytes some is ∙ within-long limit faults.TooLong (update_at width height) bytes long waits

pub front_short : (limit width height : ℕ) (bytes : List ℕ) → 0 < length bytes → slice_index bytes 0 ≡ 0
    → update_at width height (take limit bytes) ≡ More → length bytes ≤ limit → message_at limit width height bytes ≡ More
front_short limit width height bytes some is waits short =
    kind_update limit width height bytes some is ∙ within-short limit faults.TooLong (update_at width height) bytes short
    ∙ ap (update_at width height) (sym (take_all limit bytes short)) ∙ waits

pub front_bad : (limit width height : ℕ) (bytes : List ℕ) (f : WireFault) → 0 < length bytes → slice_index bytes 0 ≡ 0
    → update_at width height (take limit bytes) ≡ Bad f → message_at limit width height bytes ≡ Bad f
unfolding within
front_bad limit width height bytes f some is bad = kind_update limit width height bytes some is ∙ rw bad refl

front_got : (limit width height : ℕ) (bytes after : List ℕ) (m : Message) → 0 < length bytes → slice_index bytes 0 ≡ 0
    → update_at width height (take limit bytes) ≡ Got m after → message_at limit width height bytes ≡ Got m (after ++ drop limit bytes)
unfolding within
front_got limit width height bytes after m some is got = kind_update limit width height bytes some is ∙ rw got refl

-- a front of the bytes that is a whole message
pub record WholeFront (format : Format) (width height : ℕ) (bytes after : List ℕ) (rs : List Rectangle) : Type 0 where
  pub whole : List ℕ
  pub front_is : take (message_limit format) bytes ≡ whole ++ after
  pub recorded : IsRecorded (host_of format width height whole rs)
  pub reads : message_at (message_limit format) width height bytes ≡ Got (Recorded rs) (after ++ drop (message_limit format) bytes)

pub front_whole : (format : Format) (width height : ℕ) (bytes after : List ℕ) (rs : List Rectangle) → 0 < length bytes → slice_index bytes 0 ≡ 0
    → update_at width height (take (message_limit format) bytes) ≡ Got (Recorded rs) after → WholeFront format width height bytes after rs
front_whole format width height bytes after rs some is got =
    let front : slice_index (take (message_limit format) bytes) 0 ≡ 0 = get_or-take (message_limit format) bytes 0 0 (omega (arith, (are_limits format).text)) ∙ is in
    let u = update_read width height (take (message_limit format) bytes) rs after front got in
    let lengths = ap length u.1 in
    let short : length u.0 ≤ (message_limit format) = omega (arith, length-append u.0 after, length-take (message_limit format) bytes) in
    record {
      whole = u.0;
      front_is = u.1;
      recorded = message_is_read (message_limit format) width height u.0 rs (record { kind = inl (u.2, short); short = omega (arith, (are_limits format).text) });
      reads = front_got (message_limit format) width height bytes after (Recorded rs) some is got;
    }

-- the front that the code takes
pub front_taken : (format : Format) (n : ℕ) (bytes : List ℕ) → n ≡ min (length bytes) (message_limit format) → take n bytes ≡ take (message_limit format) bytes
front_taken format n bytes is = elim (true_or_false (nat_lt (message_limit format) (length bytes))) [
  | inl t ↦ (let long = ltb-true (message_limit format) (length bytes) t in let e : n ≡ (message_limit format) = omega arith in ap (λ k. take k bytes) e)
  | inr t ↦
      (let short = ltb-false (message_limit format) (length bytes) t in
      let e : n ≡ length bytes = omega arith in
      take_all n bytes (omega arith) ∙ sym (take_all (message_limit format) bytes short))
]

-- the bytes of the message that the code takes
pub whole_taken : (front whole after : List ℕ) → front ≡ whole ++ after → take (length front - length after) front ≡ whole
whole_taken front whole after is =
    let n : length front - length after ≡ length whole = rw (is, length-append) (omega arith) in
    ap (λ k. take k front) n ∙ ap (take (length whole)) is ∙ take_at whole after (length whole) refl
