-- Messages that are no update.
use Rattle.std.proofs.Common.{◌≡◌, ℕ, ◌*◌, ◌<◌, ◌≤◌, List, [], ◌++◌, length, nat_eq, true, false, refl, sym, ap, ◌∙◌, ◌⊎◌, inl, inr, arith, append_assoc, eqb-true}
use Rattle.std.specs.Prelude.{nat_lt, if◌then◌else◌}
use Rattle.std.proofs.lemmas.Bool.{ltb-false, lt-ltb, le-ltb}
use Rattle.std.proofs.lemmas.List.{append-nil}
use Rattle.terms.specs.Reading.{Got, Bad, field}
use Rattle.terms.proofs.Readings.{bind_got, field_got, field-whole, true_or_false, field_front}
use Rattle.terms.specs.Number.{u16_at, u32_at}
use Rattle.rfb_wire.specs.declared.message.Rectangle.{Rectangle}
use Rattle.terms.specs.declared.wire_fault.WireFault.{WireFault}
use Rattle.terms.specs.declared.wire_fault.WireFault.TheVariants as faults
use Rattle.rfb_wire.specs.Grammar.{Recorded, ReadOver, other_at, color_map_at, text_at, text_data_at, read_over, text_limit}

over_never : (n : ℕ) (bytes : List ℕ) (rs : List Rectangle) (rest : List ℕ) → read_over n bytes ≡ Got (Recorded rs) rest → ⊥
unfolding read_over
over_never n bytes rs rest e =
    let b = bind_got (field n bytes) (λ skipped after. Got ReadOver after) (Recorded rs) rest e in
    let last = b.then in
    absurd (cc)

color_map_never : (bytes : List ℕ) (rs : List Rectangle) (rest : List ℕ) → color_map_at bytes ≡ Got (Recorded rs) rest → ⊥
unfolding color_map_at
color_map_never bytes rs rest e =
    let b = bind_got (field 5 bytes) (λ f after. read_over (6 * u16_at f 3) after) (Recorded rs) rest e in
    over_never (6 * u16_at b.value 3) b.rest rs rest b.then

-- a text that is recorded
pub record TextRead (bytes : List ℕ) (rs : List Rectangle) (rest : List ℕ) : Type 0 where
  pub head : List ℕ
  pub text : List ℕ
  pub bytes_are : bytes ≡ (head ++ text) ++ rest
  pub head_length : length head ≡ 7
  pub text_length : length text ≡ u32_at head 3
  pub text_short : length text ≤ text_limit
  pub none : rs ≡ []

text_by_length : (head body : List ℕ) (rs : List Rectangle) (rest : List ℕ) → length head ≡ 7
    → (if nat_lt text_limit (u32_at head 3) then read_over (u32_at head 3) body else text_data_at (u32_at head 3) body) ≡ Got (Recorded rs) rest
    → TextRead (head ++ body) rs rest
unfolding text_data_at
text_by_length head body rs rest seven e = elim (true_or_false (nat_lt text_limit (u32_at head 3))) [
  | inl t ↦ (let e' = rw t at e in absurd (over_never (u32_at head 3) body rs rest e'))
  | inr t ↦
      (let e' = rw t at e in
      let b = bind_got (field (u32_at head 3) body) (λ text after. Got (Recorded []) after) (Recorded rs) rest e' in
      let f = field_front (u32_at head 3) body b.value b.rest (field_got (u32_at head 3) body b.value b.rest b.first) in
      let last = b.then in
      let none : rs ≡ [] = cc in
      let rest_is : b.rest ≡ rest = cc in
      let small = ltb-false text_limit (u32_at head 3) t in
      record {
        head = head;
        text = b.value;
        bytes_are = ap (λ z. head ++ z) (f.0 ∙ ap (λ z. b.value ++ z) rest_is) ∙ sym (append_assoc head b.value rest);
        head_length = seven;
        text_length = f.1;
        text_short = omega (arith, small, f.1);
        none = none;
      })
]

text_read : (bytes : List ℕ) (rs : List Rectangle) (rest : List ℕ) → text_at bytes ≡ Got (Recorded rs) rest → TextRead bytes rs rest
unfolding text_at
text_read bytes rs rest e =
    let b = bind_got (field 7 bytes) (λ f after. if nat_lt text_limit (u32_at f 3) then read_over (u32_at f 3) after else text_data_at (u32_at f 3) after) (Recorded rs) rest e in
    let f = field_front 7 bytes b.value b.rest (field_got 7 bytes b.value b.rest b.first) in
    rw f.0 (text_by_length b.value b.rest rs rest f.1 b.then)

-- a bell, or a text
pub other_read : (type : ℕ) (bytes : List ℕ) (rs : List Rectangle) (rest : List ℕ) → other_at type bytes ≡ Got (Recorded rs) rest
    → ((type ≡ 2) × (bytes ≡ rest) × (rs ≡ [])) ⊎ ((type ≡ 3) × TextRead bytes rs rest)
unfolding other_at
other_read type bytes rs rest e = elim (true_or_false (nat_eq type 1)) [
  | inl t ↦ (let e' = rw t at e in absurd (color_map_never bytes rs rest e'))
  | inr t ↦ elim (true_or_false (nat_eq type 2)) [
    | inl u ↦ (let e' = rw (t, u) at e in let none : rs ≡ [] = cc in let is : bytes ≡ rest = cc in inl (eqb-true type 2 u, is, none))
    | inr u ↦ elim (true_or_false (nat_eq type 3)) [
      | inl v ↦ (let e' = rw (t, u, v) at e in inr (eqb-true type 3 v, text_read bytes rs rest e'))
      | inr v ↦ (let e' = rw (t, u, v) at e in absurd (cc))
    ]
  ]
]

pub other_none : (type : ℕ) (bytes : List ℕ) (rs : List Rectangle) (rest : List ℕ) → other_at type bytes ≡ Got (Recorded rs) rest → rs ≡ []
other_none type bytes rs rest e = elim (other_read type bytes rs rest e) [
  | inl b ↦ b.2
  | inr t ↦ t.1.none
]

-- a short text is read
pub text_again : (head text : List ℕ) → length head ≡ 7 → length text ≡ u32_at head 3 → length text ≤ text_limit
    → text_at (head ++ text) ≡ Got (Recorded []) []
unfolding text_at text_data_at
text_again head text seven is short =
    let small : nat_lt text_limit (u32_at head 3) ≡ false = le-ltb text_limit (u32_at head 3) (omega arith) in
    let body : field {E = WireFault} (u32_at head 3) text ≡ Got text [] = ap (field {E = WireFault} (u32_at head 3)) (sym (append-nil text)) ∙ field-whole {E = WireFault} (u32_at head 3) text [] is in
    rw (field-whole {E = WireFault} 7 head text seven, small, body) refl

-- a longer one is read over
pub long_text_again : (head text : List ℕ) → length head ≡ 7 → length text ≡ u32_at head 3 → text_limit < length text
    → text_at (head ++ text) ≡ Got ReadOver []
unfolding text_at read_over
long_text_again head text seven is long =
    let large : nat_lt text_limit (u32_at head 3) ≡ true = lt-ltb text_limit (u32_at head 3) (omega arith) in
    let body : field {E = WireFault} (u32_at head 3) text ≡ Got text [] = ap (field {E = WireFault} (u32_at head 3)) (sym (append-nil text)) ∙ field-whole {E = WireFault} (u32_at head 3) text [] is in
    rw (field-whole {E = WireFault} 7 head text seven, large, body) refl

pub other_of_text : (bytes : List ℕ) → other_at 3 bytes ≡ text_at bytes
unfolding other_at
other_of_text bytes = refl

pub other_of_bell : (bytes : List ℕ) → other_at 2 bytes ≡ Got (Recorded []) bytes
unfolding other_at
other_of_bell bytes = refl

pub other_of_color_map : (bytes : List ℕ) → other_at 1 bytes ≡ color_map_at bytes
unfolding other_at
other_of_color_map bytes = refl

pub other_unknown : (type : ℕ) (bytes : List ℕ) → nat_eq type 1 ≡ false → nat_eq type 2 ≡ false → nat_eq type 3 ≡ false → other_at type bytes ≡ Bad faults.UnknownType
unfolding other_at
other_unknown type bytes a b c = rw (a, b, c) refl

-- a text of no bytes
pub no_text : (more : List ℕ) → text_data_at 0 more ≡ Got (Recorded []) more
unfolding text_data_at
no_text more = rw (field-whole {E = WireFault} 0 [] more refl) refl
