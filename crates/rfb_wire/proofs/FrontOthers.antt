-- What the grammar says of messages that are no update, whose first fields are known.
use Rattle.std.proofs.Common.{◌≡◌, ℕ, ◌+◌, ◌*◌, ◌-◌, ◌≤◌, Bool, true, false, List, [], ◌∷◌, ◌++◌, length, take, drop, slice_index, nat_eq, refl, sym, ap, ◌∙◌, inl, inr, arith, ◌<◌, append_assoc, length-append}
use Rattle.std.specs.Prelude.{nat_lt, nat_le}
use Rattle.std.proofs.lemmas.Bool.{lt-ltb, le-ltb, leb-true, leb-false}
use Rattle.terms.specs.Reading.{Got, More, field}
use Rattle.terms.specs.declared.wire_fault.WireFault.{WireFault}
use Rattle.rfb_wire.specs.Grammar.{message_at, other_at, Recorded, ReadOver, color_map_at, text_at, text_data_at, read_over, text_limit}
use Rattle.rfb_wire.specs.Plain.{kind_of}
use Rattle.std.specs.Prelude.{if◌then◌else◌}
use Rattle.std.proofs.lemmas.List.{drop_at, take_at, get_or-take}
use Rattle.terms.proofs.Readings.{bind_got, field_got, field-whole, true_or_false, field_front, one_number}
use Rattle.terms.specs.Number.{u16_at, u32_at}
use Rattle.rfb_wire.proofs.Others.{other_read, other_of_bell, other_of_text, text_again}
use Rattle.rfb_wire.proofs.Messages.{other_is_read}

pub map_head_short : (bytes : List ℕ) → field {E = WireFault} 5 bytes ≡ More → color_map_at bytes ≡ More
unfolding color_map_at
map_head_short bytes e = rw e refl

pub map_short : (count : ℕ) (bytes head colors : List ℕ) → field {E = WireFault} 5 bytes ≡ Got head colors → u16_at head 3 ≡ count
    → field {E = WireFault} (6 * count) colors ≡ More → color_map_at bytes ≡ More
unfolding color_map_at read_over
map_short count bytes head colors e is short = rw (e, is, short) refl

pub map_whole : (count : ℕ) (bytes head colors skipped rest : List ℕ) → field {E = WireFault} 5 bytes ≡ Got head colors → u16_at head 3 ≡ count
    → field {E = WireFault} (6 * count) colors ≡ Got skipped rest → color_map_at bytes ≡ Got ReadOver rest
unfolding color_map_at read_over
map_whole count bytes head colors skipped rest e is whole = rw (e, is, whole) refl

pub text_head_short : (bytes : List ℕ) → field {E = WireFault} 7 bytes ≡ More → text_at bytes ≡ More
unfolding text_at
text_head_short bytes e = rw e refl

pub text_short : (count : ℕ) (bytes head body : List ℕ) → field {E = WireFault} 7 bytes ≡ Got head body → u32_at head 3 ≡ count
    → field {E = WireFault} count body ≡ More → text_at bytes ≡ More
unfolding text_at text_data_at read_over
text_short count bytes head body e is short = by_length (nat_lt text_limit count) refl
  where
    by_length : (b : Bool) → nat_lt text_limit count ≡ b → text_at bytes ≡ More
    by_length true long = rw (e, is, long, short) refl
    by_length false long = rw (e, is, long, short) refl

pub text_whole : (count : ℕ) (recorded : Bool) (bytes head body text rest : List ℕ) → field {E = WireFault} 7 bytes ≡ Got head body → u32_at head 3 ≡ count
    → field {E = WireFault} count body ≡ Got text rest → nat_le count text_limit ≡ recorded → text_at bytes ≡ Got (kind_of recorded) rest
unfolding text_at text_data_at read_over
text_whole count true bytes head body text rest e is whole short =
    let small : nat_lt text_limit count ≡ false = le-ltb text_limit count (leb-true count text_limit short) in
    rw (e, is, small, whole) refl
text_whole count false bytes head body text rest e is whole long =
    let large : nat_lt text_limit count ≡ true = lt-ltb text_limit count (leb-false count text_limit long) in
    rw (e, is, large, whole) refl

over_front : (n : ℕ) (bytes rest : List ℕ) → read_over n bytes ≡ Got ReadOver rest → (front : List ℕ) × (bytes ≡ front ++ rest)
unfolding read_over
over_front n bytes rest e =
    let b = bind_got (field n bytes) (λ skipped after. Got ReadOver after) ReadOver rest e in
    let f = field_front n bytes b.value b.rest (field_got n bytes b.value b.rest b.first) in
    let last = b.then in
    let is : b.rest ≡ rest = cc in
    (b.value, f.0 ∙ ap (λ z. b.value ++ z) is)

after_head : (head body rest bytes : List ℕ) → bytes ≡ head ++ body → ((front : List ℕ) × (body ≡ front ++ rest)) → (front : List ℕ) × (bytes ≡ front ++ rest)
after_head head body rest bytes is (front, body_is) = (head ++ front, is ∙ ap (λ z. head ++ z) body_is ∙ sym (append_assoc head front rest))

data_never : (n : ℕ) (bytes rest : List ℕ) → text_data_at n bytes ≡ Got ReadOver rest → ⊥
unfolding text_data_at
data_never n bytes rest e =
    let b = bind_got (field n bytes) (λ text after. Got (Recorded []) after) ReadOver rest e in
    let last = b.then in
    absurd (cc)

text_front : (bytes rest : List ℕ) → text_at bytes ≡ Got ReadOver rest → (front : List ℕ) × (bytes ≡ front ++ rest)
unfolding text_at
text_front bytes rest e =
    let b = bind_got (field 7 bytes) (λ f after. if nat_lt text_limit (u32_at f 3) then read_over (u32_at f 3) after else text_data_at (u32_at f 3) after) ReadOver rest e in
    let f = field_front 7 bytes b.value b.rest (field_got 7 bytes b.value b.rest b.first) in
    elim (true_or_false (nat_lt text_limit (u32_at b.value 3))) [
      | inl t ↦ (let e' = rw t at b.then in after_head b.value b.rest rest bytes f.0 (over_front (u32_at b.value 3) b.rest rest e'))
      | inr t ↦ (let e' = rw t at b.then in absurd (data_never (u32_at b.value 3) b.rest rest e'))
    ]

map_front : (bytes rest : List ℕ) → color_map_at bytes ≡ Got ReadOver rest → (front : List ℕ) × (bytes ≡ front ++ rest)
unfolding color_map_at
map_front bytes rest e =
    let b = bind_got (field 5 bytes) (λ f after. read_over (6 * u16_at f 3) after) ReadOver rest e in
    let f = field_front 5 bytes b.value b.rest (field_got 5 bytes b.value b.rest b.first) in
    after_head b.value b.rest rest bytes f.0 (over_front (6 * u16_at b.value 3) b.rest rest b.then)

passed_front : (type : ℕ) (bytes rest : List ℕ) → other_at type bytes ≡ Got ReadOver rest → (front : List ℕ) × (bytes ≡ front ++ rest)
unfolding other_at
passed_front type bytes rest e = elim (true_or_false (nat_eq type 1)) [
  | inl t ↦ (let e' = rw t at e in map_front bytes rest e')
  | inr t ↦ elim (true_or_false (nat_eq type 2)) [
    | inl u ↦ (let e' = rw (t, u) at e in absurd (cc))
    | inr u ↦ elim (true_or_false (nat_eq type 3)) [
      | inl v ↦ (let e' = rw (t, u, v) at e in text_front bytes rest e')
      | inr v ↦ (let e' = rw (t, u, v) at e in absurd (cc))
    ]
  ]
]

-- a message that is read over, by the bytes after it
pub front_passed : (type : ℕ) (bytes kind rest following : List ℕ) → field {E = WireFault} 1 bytes ≡ Got kind rest → other_at type rest ≡ Got ReadOver following
    → (length following ≤ length bytes) × (drop (length bytes - length following) bytes ≡ following)
front_passed type bytes kind rest following e is =
    let f = field_front 1 bytes kind rest (field_got 1 bytes kind rest e) in
    let all = after_head kind rest following bytes f.0 (passed_front type rest following is) in
    let lengths : length bytes ≡ length all.0 + length following = ap length all.1 ∙ length-append all.0 following in
    let n : length bytes - length following ≡ length all.0 = omega arith in
    (omega arith, ap (λ k. drop k bytes) n ∙ ap (drop (length all.0)) all.1 ∙ drop_at all.0 following (length all.0) refl)

-- a front of the bytes that is a bell or a text
pub record OtherFront (limit width height : ℕ) (bytes following : List ℕ) : Type 0 where
  pub whole : List ℕ
  pub bytes_are : bytes ≡ whole ++ following
  pub recorded : message_at limit width height whole ≡ Got (Recorded []) []

pub front_other : (limit width height : ℕ) (bytes kind rest following : List ℕ) → field {E = WireFault} 1 bytes ≡ Got kind rest
    → other_at (slice_index kind 0) rest ≡ Got (Recorded []) following → OtherFront limit width height bytes following
front_other limit width height bytes kind rest following e is =
    let f = field_front 1 bytes kind rest (field_got 1 bytes kind rest e) in
    let type = slice_index kind 0 in
    let bytes_are : bytes ≡ type ∷ rest = f.0 ∙ ap (λ z. z ++ rest) (one_number kind f.1) in
    elim (other_read type rest [] following is) [
      | inl b ↦ record {
        whole = 2 ∷ [];
        bytes_are = bytes_are ∙ ap (λ z. z ∷ rest) b.0 ∙ ap (λ z. 2 ∷ z) b.1;
        recorded = other_is_read limit width height 2 [] refl ∙ other_of_bell [];
      }
      | inr t ↦
          (let r = t.1 in
          record {
            whole = 3 ∷ (r.head ++ r.text);
            bytes_are = bytes_are ∙ ap (λ z. z ∷ rest) t.0 ∙ ap (λ z. 3 ∷ z) r.bytes_are;
            recorded = other_is_read limit width height 3 (r.head ++ r.text) refl ∙ other_of_text (r.head ++ r.text) ∙ text_again r.head r.text r.head_length r.text_length r.text_short;
          })
    ]

-- the bytes after a message are no more than all
pub after_within : (recorded : Bool) (bytes kind rest following : List ℕ) → field {E = WireFault} 1 bytes ≡ Got kind rest
    → other_at (slice_index kind 0) rest ≡ Got (kind_of recorded) following → length following ≤ length bytes
after_within true bytes kind rest following e is =
    let f = front_other 0 0 0 bytes kind rest following e is in
    let lengths : length bytes ≡ length f.whole + length following = ap length f.bytes_are ∙ length-append f.whole following in
    omega arith
after_within false bytes kind rest following e is = (front_passed (slice_index kind 0) bytes kind rest following e is).0

-- the bytes that the code takes of a message
pub other_taken : (bytes whole following : List ℕ) → bytes ≡ whole ++ following → take (length bytes - length following) bytes ≡ whole
other_taken bytes whole following is =
    let n : length bytes - length following ≡ length whole = rw (is, length-append) (omega arith) in
    ap (λ k. take k bytes) n ∙ ap (take (length whole)) is ∙ take_at whole following (length whole) refl

-- the type of bytes, and what follows it
pub type_front : (bytes : List ℕ) → 0 < length bytes → field {E = WireFault} 1 bytes ≡ Got (slice_index bytes 0 ∷ []) (drop 1 bytes)
type_front [] some = absurd (omega arith)
type_front (b ∷ bytes) some = field-whole {E = WireFault} 1 (b ∷ []) bytes refl

-- the same of bytes whose first field is known
pub record HasType (number : ℕ) (bytes rest : List ℕ) : Type 0 where
  pub number_is : slice_index bytes 0 ≡ number
  pub rest_is : drop 1 bytes ≡ rest

pub has_type : (number : ℕ) (bytes first rest : List ℕ) → field {E = WireFault} 1 bytes ≡ Got first rest → slice_index first 0 ≡ number → HasType number bytes rest
has_type number bytes first rest e is =
    let f = field_got 1 bytes first rest e in
    record {
      number_is = sym (get_or-take 1 bytes 0 0 (omega arith)) ∙ ap (λ z. slice_index z 0) (sym f.is) ∙ is;
      rest_is = sym f.rest_is;
    }
