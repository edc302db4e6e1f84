-- What bytes say they say whatever follows them: each part of the grammar is local.
use Rattle.std.proofs.Common.{◌≡◌, ℕ, zero, suc, ◌+◌, ◌-◌, ◌*◌, List, ◌∷◌, ◌++◌, length, length-append, nat_eq, slice_index, Option, Some, None, refl, ap, arith}
use Rattle.std.proofs.Common.{inl, inr}
use Rattle.std.specs.Prelude.{nat_lt, [], if◌then◌else◌}
use Rattle.terms.specs.Reading.{Reading, Got, ◌>>=◌, field, guard, within, Extends, IsLocal}
use Rattle.terms.proofs.Readings.{field_local, bind_local, guard_local, within_local, true_or_false}
use Rattle.terms.specs.declared.area.Area.{Area}
use Rattle.rfb_wire.specs.declared.message.Rectangle.{Rectangle}
use Rattle.pixel_format.specs.Format.{host_format}
use Rattle.terms.specs.Number.{u16_at, u32_at}
use Rattle.rect_data.specs.declared.encoding.Encoding.{Encoding}
use Rattle.rect_data.specs.Grammar.{encoding_of, is_inside, data_at}
use Rattle.rect_data.proofs.Local.{data_local}
use Rattle.terms.specs.declared.wire_fault.WireFault.{WireFault}
use Rattle.terms.specs.declared.wire_fault.WireFault.TheVariants as faults
use Rattle.rfb_wire.specs.Grammar.{area_of, encoding_number, content_at, encoded_at, rectangle_at, rectangles_at, update_at, message_at, other_at, color_map_at, text_at, text_data_at, read_over, text_limit, Message, Recorded, ReadOver}

-- the end of what is read is the same
same_end : (area : Area) (encoding : Encoding) (at : ℕ) (bytes rest more : List ℕ)
    → Extends {A = Rectangle} {E = WireFault} (Got (record { area = area; encoding = encoding; start = at; end = (at + length bytes) - length rest }) rest) more
    (Got (record { area = area; encoding = encoding; start = at; end = (at + length (bytes ++ more)) - length (rest ++ more) }) (rest ++ more))
same_end area encoding at bytes rest more =
    let both : (at + length (bytes ++ more)) - length (rest ++ more) ≡ (at + length bytes) - length rest =
    rw (length-append bytes more, length-append rest more) (omega arith) in
    ap (λ e. Got (record { area = area; encoding = encoding; start = at; end = e }) (rest ++ more)) both

content_local : (width height : ℕ) (encoding : Encoding) (area : Area) (at : ℕ) → IsLocal (content_at width height encoding area at)
unfolding content_at
content_local width height encoding area at bytes more =
    let f : Unit {0} → List ℕ → Reading Rectangle WireFault = λ content rest. Got (record { area = area; encoding = encoding; start = at; end = (at + length bytes) - length rest }) rest in
    let g : Unit {0} → List ℕ → Reading Rectangle WireFault = λ content rest. Got (record { area = area; encoding = encoding; start = at; end = (at + length (bytes ++ more)) - length rest }) rest in
    bind_local (data_at host_format width height encoding area bytes) (data_at host_format width height encoding area (bytes ++ more)) more f g
    (data_local host_format width height encoding area bytes more) (λ content rest. same_end area encoding at bytes rest more)

encoded_local : (width height number : ℕ) (encoding : Option Encoding) (area : Area) (at : ℕ) → IsLocal (encoded_at width height number encoding area at)
encoded_local width height number (Some encoding) area at bytes more = content_local width height encoding area at bytes more
encoded_local width height number None area at bytes more = refl

rectangle_local : (width height at : ℕ) → IsLocal (rectangle_at width height at)
unfolding rectangle_at
rectangle_local width height at bytes more =
    let f : List ℕ → List ℕ → Reading Rectangle WireFault = λ head rest. guard (is_inside width height (area_of head)) faults.OutsideScreen (encoded_at width height (encoding_number head) (encoding_of (encoding_number head)) (area_of head) (at + 12) rest) in
    bind_local (field 12 bytes) (field 12 (bytes ++ more)) more f f (field_local WireFault 12 bytes more)
    (λ head rest. guard_local (is_inside width height (area_of head)) faults.OutsideScreen
    (encoded_at width height (encoding_number head) (encoding_of (encoding_number head)) (area_of head) (at + 12) rest)
    (encoded_at width height (encoding_number head) (encoding_of (encoding_number head)) (area_of head) (at + 12) (rest ++ more)) more
    (encoded_local width height (encoding_number head) (encoding_of (encoding_number head)) (area_of head) (at + 12) rest more))

rectangles_local : (width height count at : ℕ) → IsLocal (rectangles_at width height count at)
unfolding rectangles_at
rectangles_local width height zero at bytes more = refl
rectangles_local width height (suc count) at bytes more =
    let f : Rectangle → List ℕ → Reading (List Rectangle) WireFault = λ first rest. rectangles_at width height count first.end rest >>= λ others after. Got (first ∷ others) after in
    bind_local (rectangle_at width height at bytes) (rectangle_at width height at (bytes ++ more)) more f f (rectangle_local width height at bytes more)
    (λ first rest.
    let g : List Rectangle → List ℕ → Reading (List Rectangle) WireFault = λ others after. Got (first ∷ others) after in
    bind_local (rectangles_at width height count first.end rest) (rectangles_at width height count first.end (rest ++ more)) more g g
    (rectangles_local width height count first.end rest more) (λ others after. refl))

update_local : (width height : ℕ) → IsLocal (update_at width height)
unfolding update_at
update_local width height bytes more =
    let h : List Rectangle → List ℕ → Reading Message WireFault = λ rectangles after. Got (Recorded rectangles) after in
    let g : List ℕ → List ℕ → Reading Message WireFault = λ f rest. rectangles_at width height (u16_at f 1) 4 rest >>= h in
    let k : List ℕ → List ℕ → Reading Message WireFault = λ type head. field 3 head >>= g in
    bind_local (field 1 bytes) (field 1 (bytes ++ more)) more k k (field_local WireFault 1 bytes more)
    (λ type head. bind_local (field 3 head) (field 3 (head ++ more)) more g g (field_local WireFault 3 head more)
    (λ f rest. bind_local (rectangles_at width height (u16_at f 1) 4 rest) (rectangles_at width height (u16_at f 1) 4 (rest ++ more)) more h h
    (rectangles_local width height (u16_at f 1) 4 rest more) (λ rectangles after. refl)))

read_over_local : (n : ℕ) → IsLocal (read_over n)
unfolding read_over
read_over_local n bytes more =
    let f : List ℕ → List ℕ → Reading Message WireFault = λ skipped rest. Got ReadOver rest in
    bind_local (field n bytes) (field n (bytes ++ more)) more f f (field_local WireFault n bytes more) (λ skipped rest. refl)

text_data_local : (n : ℕ) → IsLocal (text_data_at n)
unfolding text_data_at
text_data_local n bytes more =
    let f : List ℕ → List ℕ → Reading Message WireFault = λ text rest. Got (Recorded []) rest in
    bind_local (field n bytes) (field n (bytes ++ more)) more f f (field_local WireFault n bytes more) (λ text rest. refl)

color_map_local : IsLocal color_map_at
unfolding color_map_at
color_map_local bytes more =
    let f : List ℕ → List ℕ → Reading Message WireFault = λ head rest. read_over (6 * u16_at head 3) rest in
    bind_local (field 5 bytes) (field 5 (bytes ++ more)) more f f (field_local WireFault 5 bytes more)
    (λ head rest. read_over_local (6 * u16_at head 3) rest more)

text_by_length : (n : ℕ) (bytes more : List ℕ) → Extends (if nat_lt text_limit n then read_over n bytes else text_data_at n bytes) more
    (if nat_lt text_limit n then read_over n (bytes ++ more) else text_data_at n (bytes ++ more))
text_by_length n bytes more = elim (true_or_false (nat_lt text_limit n)) [
  | inl t ↦ rw t (read_over_local n bytes more)
  | inr t ↦ rw t (text_data_local n bytes more)
]

text_local : IsLocal text_at
unfolding text_at
text_local bytes more =
    let f : List ℕ → List ℕ → Reading Message WireFault = λ head rest. if nat_lt text_limit (u32_at head 3) then read_over (u32_at head 3) rest else text_data_at (u32_at head 3) rest in
    bind_local (field 7 bytes) (field 7 (bytes ++ more)) more f f (field_local WireFault 7 bytes more)
    (λ head rest. text_by_length (u32_at head 3) rest more)

other_local : (type : ℕ) → IsLocal (other_at type)
unfolding other_at
other_local type bytes more = elim (true_or_false (nat_eq type 1)) [
  | inl t ↦ rw t (color_map_local bytes more)
  | inr t ↦ elim (true_or_false (nat_eq type 2)) [
    | inl u ↦ rw (t, u) refl
    | inr u ↦ elim (true_or_false (nat_eq type 3)) [
      | inl v ↦ rw (t, u, v) (text_local bytes more)
      | inr v ↦ rw (t, u, v) refl
    ]
  ]
]

by_type : (limit width height type : ℕ) (bytes rest more : List ℕ)
    → Extends (if nat_eq type 0 then within limit faults.TooLong (update_at width height) bytes else other_at type rest) more
    (if nat_eq type 0 then within limit faults.TooLong (update_at width height) (bytes ++ more) else other_at type (rest ++ more))
by_type limit width height type bytes rest more = elim (true_or_false (nat_eq type 0)) [
  | inl t ↦ rw t (within_local limit faults.TooLong (update_at width height) (update_local width height) bytes more)
  | inr t ↦ rw t (other_local type rest more)
]

pub message_local : (limit width height : ℕ) → IsLocal (message_at limit width height)
unfolding message_at
message_local limit width height bytes more =
    let f : List ℕ → List ℕ → Reading Message WireFault = λ type rest. if nat_eq (slice_index type 0) 0 then within limit faults.TooLong (update_at width height) bytes else other_at (slice_index type 0) rest in
    let g : List ℕ → List ℕ → Reading Message WireFault = λ type rest. if nat_eq (slice_index type 0) 0 then within limit faults.TooLong (update_at width height) (bytes ++ more) else other_at (slice_index type 0) rest in
    bind_local (field 1 bytes) (field 1 (bytes ++ more)) more f g (field_local WireFault 1 bytes more)
    (λ type rest. by_type limit width height (slice_index type 0) bytes rest more)
