-- What the grammar reads is a message, and each message is what it reads.
use Rattle.std.proofs.Common.{◌≡◌, ℕ, zero, suc, ◌+◌, ◌*◌, ◌≤◌, ◌⊎◌, length-append, inl, inr, true, false, List, [], ◌∷◌, ◌++◌, ◌-◌, length, take, drop, nat_eq, slice_index, Option, Some, None, refl, sym, ap, ◌∙◌, subst, arith, append_assoc, eqb-true}
use Rattle.std.specs.Prelude.{if◌then◌else◌}
use Rattle.std.proofs.lemmas.List.{length-drop, take_all, append-nil}
use Rattle.terms.specs.Reading.{Got, ◌>>=◌, field, guard, within}
use Rattle.terms.proofs.Readings.{bind_got, guard_got, field_got, field-whole, within_got, within-short, true_or_false, field_front, one_number, three_numbers}
use Rattle.terms.specs.declared.area.Area.{Area}
use Rattle.terms.proofs.Listed.{ListRead, none_read, one_more_read}
use Rattle.rfb_wire.specs.declared.message.Rectangle.{Rectangle}
use Rattle.pixel_format.specs.Format.{host_format}
use Rattle.terms.specs.Number.{u16_at}
use Rattle.rect_data.specs.declared.encoding.Encoding.{Encoding}
use Rattle.rect_data.specs.Grammar.{encoding_of, is_inside, data_at}
use Rattle.rect_data.specs.Data.{number_of, AreData}
use Rattle.rect_data.proofs.Content.{inside_within, within_inside, number_again, encoding_number_is, data_read, data_again}
use Rattle.terms.specs.declared.wire_fault.WireFault.{WireFault}
use Rattle.terms.specs.declared.wire_fault.WireFault.TheVariants as faults
use Rattle.rfb_wire.specs.Grammar.{area_of, encoding_number, content_at, encoded_at, rectangle_at, rectangles_at, update_at, message_at, other_at, Recorded}
use Rattle.rfb_wire.specs.Message.{IsRectangle, AreRectangles, IsUpdate, IsMessage}
use Rattle.rfb_wire.proofs.Others.{TextRead, other_read, other_of_bell, other_of_text, text_again}

-- data that are read, and the rectangle that they end
record ContentRead (width height : ℕ) (encoding : Encoding) (area : Area) (at : ℕ) (bytes : List ℕ) (r : Rectangle) (rest : List ℕ) : Type 0 where
  pub content : List ℕ
  pub bytes_are : bytes ≡ content ++ rest
  pub content_is : AreData host_format width height encoding area content
  pub is : r ≡ record { area = area; encoding = encoding; start = at; end = at + length content }

content_read : (width height : ℕ) (encoding : Encoding) (area : Area) (at : ℕ) (bytes : List ℕ) (r : Rectangle) (rest : List ℕ)
    → content_at width height encoding area at bytes ≡ Got r rest → ContentRead width height encoding area at bytes r rest
unfolding content_at
content_read width height encoding area at bytes r rest e =
    let b = bind_got (data_at host_format width height encoding area bytes)
    (λ content after. Got (record { area = area; encoding = encoding; start = at; end = (at + length bytes) - length after }) after) r rest e in
    let d = data_read host_format width height encoding area bytes b.rest b.value b.first in
    let last = b.then in
    let is : record { area = area; encoding = encoding; start = at; end = (at + length bytes) - length b.rest } ≡ r = cc in
    let rest_is : b.rest ≡ rest = cc in
    let size : length bytes ≡ length d.front + length b.rest = ap length d.bytes_are ∙ length-append d.front b.rest in
    let end : (at + length bytes) - length b.rest ≡ at + length d.front = omega (arith, size) in
    record {
      content = d.front;
      bytes_are = d.bytes_are ∙ ap (λ z. d.front ++ z) rest_is;
      content_is = d.is;
      is = sym is ∙ ap (λ z. record { area = area; encoding = encoding; start = at; end = z }) end;
    }

-- the encoding of a number that is read
record EncodedRead (width height number : ℕ) (area : Area) (at : ℕ) (bytes : List ℕ) (r : Rectangle) (rest : List ℕ) : Type 0 where
  pub encoding : Encoding
  pub number_is : number_of encoding ≡ number
  pub read : ContentRead width height encoding area at bytes r rest

encoded_read : (width height number : ℕ) (encoding : Option Encoding) (area : Area) (at : ℕ) (bytes : List ℕ) (r : Rectangle) (rest : List ℕ)
    → encoding_of number ≡ encoding → encoded_at width height number encoding area at bytes ≡ Got r rest → EncodedRead width height number area at bytes r rest
encoded_read width height number (Some encoding) area at bytes r rest is e =
    record { encoding = encoding; number_is = encoding_number_is number encoding is; read = content_read width height encoding area at bytes r rest e }
encoded_read width height number None area at bytes r rest is e = absurd (cc)

-- a rectangle that is read, and the bytes that it takes
record RectangleRead (width height at : ℕ) (bytes : List ℕ) (r : Rectangle) (rest : List ℕ) : Type 0 where
  pub first : List ℕ
  pub bytes_are : bytes ≡ first ++ rest
  pub is : IsRectangle width height at r first

rectangle_read : (width height at : ℕ) (bytes : List ℕ) (r : Rectangle) (rest : List ℕ) → rectangle_at width height at bytes ≡ Got r rest
    → RectangleRead width height at bytes r rest
unfolding rectangle_at
rectangle_read width height at bytes r rest e =
    let b = bind_got (field 12 bytes) (λ head after. guard (is_inside width height (area_of head)) faults.OutsideScreen (encoded_at width height (encoding_number head) (encoding_of (encoding_number head)) (area_of head) (at + 12) after)) r rest e in
    let f = field_front 12 bytes b.value b.rest (field_got 12 bytes b.value b.rest b.first) in
    let area = area_of b.value in
    let number = encoding_number b.value in
    let g = guard_got (is_inside width height area) faults.OutsideScreen (encoded_at width height number (encoding_of number) area (at + 12) b.rest) r rest b.then in
    let d = encoded_read width height number (encoding_of number) area (at + 12) b.rest r rest refl g.1 in
    let c = d.read in
    let within = inside_within width height area g.0 in
    let whole : IsRectangle width height at (record { area = area; encoding = d.encoding; start = at + 12; end = at + 12 + length c.content }) (b.value ++ c.content) = record {
      header = b.value;
      content = c.content;
      bytes_are = refl;
      header_length = f.1;
      area_is = refl;
      encoding_is = d.number_is;
      within = within;
      content_is = c.content_is;
      start_is = refl;
      end_is = refl;
    } in
    record {
      first = b.value ++ c.content;
      bytes_are = f.0 ∙ ap (λ z. b.value ++ z) c.bytes_are ∙ sym (append_assoc b.value c.content rest);
      is = subst (λ (z : Rectangle). IsRectangle width height at z (b.value ++ c.content)) (sym c.is) whole;
    }

rectangles_read : (width height count at : ℕ) (bytes : List ℕ) (rs : List Rectangle) (rest : List ℕ) → rectangles_at width height count at bytes ≡ Got rs rest
    → ListRead (AreRectangles width height at) count bytes rs rest
unfolding rectangles_at
rectangles_read width height zero at bytes rs rest e = none_read (AreRectangles width height at) bytes rs rest e refl
rectangles_read width height (suc count) at bytes rs rest e =
    let b = bind_got (rectangle_at width height at bytes) (λ first after. rectangles_at width height count first.end after >>= λ others end. Got (first ∷ others) end) rs rest e in
    let r = rectangle_read width height at bytes b.value b.rest b.first in
    let d = bind_got (rectangles_at width height count b.value.end b.rest) (λ others end. Got (b.value ∷ others) end) rs rest b.then in
    one_more_read (AreRectangles width height at) (AreRectangles width height b.value.end) b.value d.value rs r.first bytes b.rest d.rest rest count r.bytes_are
    (rectangles_read width height count b.value.end b.rest d.value d.rest d.first) d.then (λ body are. (r.first, body, refl, r.is, are))

nothing_after : (a b : List ℕ) → a ++ b ≡ [] → (a ≡ []) × (b ≡ [])
nothing_after [] b e = (refl, e)
nothing_after (x ∷ a) b e = absurd (cc)

-- an update that is read whole
pub update_read : (width height : ℕ) (bytes : List ℕ) (rs : List Rectangle) (rest : List ℕ) → slice_index bytes 0 ≡ 0 → update_at width height bytes ≡ Got (Recorded rs) rest
    → (front : List ℕ) × (bytes ≡ front ++ rest) × IsUpdate width height front rs
unfolding update_at
update_read width height bytes rs rest type e =
    let b = bind_got (field 1 bytes) (λ type head. field 3 head >>= λ f body. rectangles_at width height (u16_at f 1) 4 body >>= λ rectangles after. Got (Recorded rectangles) after) (Recorded rs) rest e in
    let t = field_front 1 bytes b.value b.rest (field_got 1 bytes b.value b.rest b.first) in
    let h = bind_got (field 3 b.rest) (λ f body. rectangles_at width height (u16_at f 1) 4 body >>= λ rectangles after. Got (Recorded rectangles) after) (Recorded rs) rest b.then in
    let k = field_front 3 b.rest h.value h.rest (field_got 3 b.rest h.value h.rest h.first) in
    let d = bind_got (rectangles_at width height (u16_at h.value 1) 4 h.rest) (λ rectangles after. Got (Recorded rectangles) after) (Recorded rs) rest h.then in
    let all = rectangles_read width height (u16_at h.value 1) 4 h.rest d.value d.rest d.first in
    let last = d.then in
    let is : d.value ≡ rs = cc in
    let rest_is : d.rest ≡ rest = cc in
    let one = one_number b.value t.1 in
    let three = three_numbers h.value k.1 in
    let bytes_are : bytes ≡ (slice_index b.value 0 ∷ slice_index h.value 0 ∷ slice_index h.value 1 ∷ slice_index h.value 2 ∷ all.body) ++ rest =
    t.0 ∙ ap (λ z. z ++ b.rest) one
    ∙ ap (λ z. slice_index b.value 0 ∷ z) (k.0 ∙ ap (λ z. z ++ h.rest) three ∙ ap (λ z. slice_index h.value 0 ∷ slice_index h.value 1 ∷ slice_index h.value 2 ∷ z) (all.bytes_are ∙ ap (λ z. all.body ++ z) rest_is)) in
    let zero_type : slice_index b.value 0 ≡ 0 = sym (ap (λ z. slice_index z 0) bytes_are) ∙ type in (
      slice_index b.value 0 ∷ slice_index h.value 0 ∷ slice_index h.value 1 ∷ slice_index h.value 2 ∷ all.body,
      bytes_are,
      record {
        padding = slice_index h.value 0;
        high = slice_index h.value 1;
        low = slice_index h.value 2;
        body = all.body;
        bytes_are = ap (λ z. z ∷ slice_index h.value 0 ∷ slice_index h.value 1 ∷ slice_index h.value 2 ∷ all.body) zero_type;
        count_is = ap length (sym is) ∙ all.count_is;
        body_is = subst (λ (z : List Rectangle). AreRectangles width height 4 z all.body) is all.are;
      },
    )

-- a bell or a text that is read whole
other_message : (limit width height type : ℕ) (bytes body : List ℕ) (rs : List Rectangle) → bytes ≡ type ∷ body
    → ((type ≡ 2) × (body ≡ []) × (rs ≡ [])) ⊎ ((type ≡ 3) × TextRead body rs []) → IsMessage limit width height bytes rs
other_message limit width height type bytes body rs is (inl b) =
    let bell : bytes ≡ 2 ∷ [] = is ∙ rw (b.0, b.1) refl in
    let one : length bytes ≡ 1 = ap length bell in
    record { kind = inr (b.2, inl bell); short = omega arith }
other_message limit width height type bytes body rs is (inr t) =
    let r = t.1 in
    let whole : bytes ≡ 3 ∷ (r.head ++ r.text) = is ∙ rw (t.0, r.bytes_are, append-nil) refl in
    let lengths : length bytes ≡ 1 + (length r.head + length r.text) = ap length whole ∙ rw length-append (omega arith) in
    record {
      kind = inr (r.none, inr (record { head = r.head; text = r.text; bytes_are = whole; head_length = r.head_length; text_length = r.text_length; text_short = r.text_short }));
      short = omega (arith, r.head_length, r.text_short);
    }

pub read_is_message : (limit width height : ℕ) (bytes : List ℕ) (rs : List Rectangle) → message_at limit width height bytes ≡ Got (Recorded rs) []
    → IsMessage limit width height bytes rs
unfolding message_at
read_is_message limit width height bytes rs e =
    let b = bind_got (field 1 bytes) (λ type rest. if nat_eq (slice_index type 0) 0 then within limit faults.TooLong (update_at width height) bytes else other_at (slice_index type 0) rest) (Recorded rs) [] e in
    let t = field_front 1 bytes b.value b.rest (field_got 1 bytes b.value b.rest b.first) in
    let one = one_number b.value t.1 in
    let bytes_are : bytes ≡ slice_index b.value 0 ∷ b.rest = t.0 ∙ ap (λ z. z ++ b.rest) one in
    elim (true_or_false (nat_eq (slice_index b.value 0) 0)) [
      | inl is ↦
          (let e' = rw is at b.then in
          let w = within_got limit faults.TooLong (update_at width height) bytes (Recorded rs) [] e' in
          let ends = nothing_after w.rest (drop limit bytes) (sym w.after_is) in
          let lengths : length (drop limit bytes) ≡ 0 = ap length ends.1 in
          let over : length bytes - limit ≡ 0 = sym (length-drop limit bytes) ∙ lengths in
          let short : length bytes ≤ limit = omega arith in
          let all : take limit bytes ≡ bytes = take_all limit bytes short in
          let update : update_at width height bytes ≡ Got (Recorded rs) [] = ap (update_at width height) (sym all) ∙ w.first ∙ ap (λ z. Got (Recorded rs) z) ends.0 in
          let type : slice_index bytes 0 ≡ 0 = ap (λ z. slice_index z 0) bytes_are ∙ eqb-true (slice_index b.value 0) 0 is in
          let u = update_read width height bytes rs [] type update in
          let front : u.0 ≡ bytes = sym (u.1 ∙ append-nil u.0) in
          record { kind = inl (subst (λ z. IsUpdate width height z rs) front u.2, short); short = omega arith })
      | inr is ↦
          (let e' = rw is at b.then in
          other_message limit width height (slice_index b.value 0) bytes b.rest rs bytes_are (other_read (slice_index b.value 0) b.rest rs [] e'))
    ]

same_rectangle : (r : Rectangle) (area : Area) (encoding : Encoding) (start end : ℕ) → area ≡ r.area → encoding ≡ r.encoding → start ≡ r.start → end ≡ r.end
    → record { area = area; encoding = encoding; start = start; end = end } ≡ r
same_rectangle r area encoding start end a e s f =
    let same : record { area = area; encoding = encoding; start = start; end = end } ≡ record { area = r.area; encoding = r.encoding; start = r.start; end = r.end } = rw (a, e, s, f) refl in
    same

-- data are read
content_again : (width height : ℕ) (encoding : Encoding) (area : Area) (at : ℕ) (content more : List ℕ) → AreData host_format width height encoding area content
    → content_at width height encoding area at (content ++ more) ≡ Got (record { area = area; encoding = encoding; start = at; end = at + length content }) more
unfolding content_at
content_again width height encoding area at content more is =
    let end : (at + length (content ++ more)) - length more ≡ at + length content = rw (length-append content more) (omega arith) in
    rw (data_again host_format width height encoding area content more is) (ap (λ e. Got (record { area = area; encoding = encoding; start = at; end = e }) more) end)

-- a header and data are read
header_again : (width height at : ℕ) (header content more : List ℕ) (encoding : Encoding) (r : Rectangle) → length header ≡ 12 → is_inside width height (area_of header) ≡ true
    → encoding_of (encoding_number header) ≡ Some encoding → content_at width height encoding (area_of header) (at + 12) (content ++ more) ≡ Got r more
    → rectangle_at width height at (header ++ (content ++ more)) ≡ Got r more
unfolding rectangle_at
header_again width height at header content more encoding r whole inside is e =
    rw (field-whole {E = WireFault} 12 header (content ++ more) whole, inside, is) e

-- a rectangle is read
rectangle_again : (width height at : ℕ) (r : Rectangle) (first more : List ℕ) → IsRectangle width height at r first
    → rectangle_at width height at (first ++ more) ≡ Got r more
rectangle_again width height at r first more is =
    let area = area_of is.header in
    let content : AreData host_format width height r.encoding area is.content = subst (λ (a : Area). AreData host_format width height r.encoding a is.content) is.area_is is.content_is in
    let number : encoding_of (encoding_number is.header) ≡ Some r.encoding = ap encoding_of (sym is.encoding_is) ∙ number_again r.encoding in
    let inside : is_inside width height area ≡ true =
    subst (λ (a : Area). is_inside width height a ≡ true) is.area_is (within_inside width height r.area is.within) in
    let end : at + 12 + length is.content ≡ r.end = sym (is.end_is ∙ ap (λ z. z + length is.content) is.start_is) in
    let same = same_rectangle r area r.encoding (at + 12) (at + 12 + length is.content) (sym is.area_is) refl (sym is.start_is) end in
    let read = content_again width height r.encoding area (at + 12) is.content more content ∙ ap (λ (z : Rectangle). Got z more) same in
    ap (λ z. rectangle_at width height at (z ++ more)) is.bytes_are
    ∙ ap (rectangle_at width height at) (append_assoc is.header is.content more)
    ∙ header_again width height at is.header is.content more r.encoding r is.header_length inside number read

rectangles_again : (width height at : ℕ) (rs : List Rectangle) (body more : List ℕ) → AreRectangles width height at rs body
    → rectangles_at width height (length rs) at (body ++ more) ≡ Got rs more
unfolding rectangles_at
rectangles_again width height at [] body more none = ap (λ z. Got [] (z ++ more)) none
rectangles_again width height at (r ∷ rs) body more (first, rest, is, whole, others) =
    let front : body ++ more ≡ first ++ (rest ++ more) = ap (λ z. z ++ more) is ∙ append_assoc first rest more in
    let read = ap (rectangle_at width height at) front ∙ rectangle_again width height at r first (rest ++ more) whole in
    rw (read, rectangles_again width height r.end rs rest more others) refl

-- an update is read
update_again : (width height : ℕ) (bytes : List ℕ) (rs : List Rectangle) → IsUpdate width height bytes rs → update_at width height bytes ≡ Got (Recorded rs) []
unfolding update_at
update_again width height bytes rs is =
    let body : rectangles_at width height (length rs) 4 (is.body ++ []) ≡ Got rs [] = rectangles_again width height 4 rs is.body [] is.body_is in
    let whole : rectangles_at width height (256 * is.high + is.low) 4 is.body ≡ Got rs [] =
    ap (λ n. rectangles_at width height n 4 is.body) (sym is.count_is) ∙ ap (rectangles_at width height (length rs) 4) (sym (append-nil is.body)) ∙ body in
    rw (
      is.bytes_are,
      field-whole {E = WireFault} 1 (0 ∷ []) (is.padding ∷ is.high ∷ is.low ∷ is.body) refl,
      field-whole {E = WireFault} 3 (is.padding ∷ is.high ∷ is.low ∷ []) is.body refl,
    ) (rw whole refl)

update_is_read : (limit width height : ℕ) (bytes : List ℕ) (rs : List Rectangle) → IsUpdate width height bytes rs → length bytes ≤ limit
    → message_at limit width height bytes ≡ Got (Recorded rs) []
unfolding message_at
update_is_read limit width height bytes rs u short =
    let type : field {E = WireFault} 1 bytes ≡ Got (0 ∷ []) (u.padding ∷ u.high ∷ u.low ∷ u.body) =
    ap (field {E = WireFault} 1) u.bytes_are ∙ field-whole {E = WireFault} 1 (0 ∷ []) (u.padding ∷ u.high ∷ u.low ∷ u.body) refl in
    rw type (within-short limit faults.TooLong (update_at width height) bytes short ∙ update_again width height bytes rs u)

pub other_is_read : (limit width height type : ℕ) (body : List ℕ) → nat_eq type 0 ≡ false → message_at limit width height (type ∷ body) ≡ other_at type body
unfolding message_at
other_is_read limit width height type body is = rw (field-whole {E = WireFault} 1 (type ∷ []) body refl, is) refl

pub message_is_read : (limit width height : ℕ) (bytes : List ℕ) (rs : List Rectangle) → IsMessage limit width height bytes rs
    → message_at limit width height bytes ≡ Got (Recorded rs) []
message_is_read limit width height bytes rs is = elim is.kind [
  | inl u ↦ update_is_read limit width height bytes rs u.0 u.1
  | inr o ↦ elim o.1 [
    | inl bell ↦ ap (message_at limit width height) bell ∙ other_is_read limit width height 2 [] refl ∙ other_of_bell [] ∙ ap (λ z. Got (Recorded z) []) (sym o.0)
    | inr t ↦
        ap (message_at limit width height) t.bytes_are ∙ other_is_read limit width height 3 (t.head ++ t.text) refl ∙ other_of_text (t.head ++ t.text)
        ∙ text_again t.head t.text t.head_length t.text_length t.text_short ∙ ap (λ z. Got (Recorded z) []) (sym o.0)
  ]
]
