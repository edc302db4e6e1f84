-- What the grammar reads is a message, and each message is what it reads.
use Rattle.std.proofs.Common.{◌≡◌, ℕ, ℤ, zero, suc, ◌+◌, ◌*◌, inl, inr, List, [], ◌∷◌, ◌++◌, length, take, drop, slice_index, refl, sym, ap, ◌∙◌, subst, arith, length-append}
use Rattle.std.specs.Prelude.{Bool, Option, Some, None, Result, Ok, Err}
use Rattle.std.proofs.lemmas.List.{length-take-le, length-drop, take-append-drop, append-nil, drop_at}
use Rattle.terms.specs.Reading.{Got, field}
use Rattle.terms.proofs.Readings.{bind_got, field_got, field-whole, field_front, one_number, three_numbers}
use Rattle.pixel_format.proofs.Valid.{accepted_is, is_accepted, flag_some}
use Rattle.pixel_format.specs.Format.{Format}
use Rattle.pixel_format.specs.Written.{format_at, is_flag}
use Rattle.terms.specs.declared.pixel_format_fault.PixelFormatFault.{PixelFormatFault}
use Rattle.terms.specs.declared.area.Area.{Area}
use Rattle.terms.specs.Area.{area_at}
use Rattle.terms.specs.Number.{u16_at, u32_at}
use Rattle.client_wire.specs.declared.message_type.ClientMessageType.{ClientMessageType}
use Rattle.client_wire.specs.declared.message_type.ClientMessageType.TheVariants as types
use Rattle.client_wire.specs.declared.message.ClientMessage.{ClientMessage}
use Rattle.client_wire.specs.declared.message.ClientMessage.TheVariants as messages
use Rattle.terms.specs.declared.wire_fault.WireFault.{WireFault}
use Rattle.client_wire.specs.MessageType.{number_of, type_of}
use Rattle.client_wire.specs.Grammar.{judged, set_pixel_format_at, numbers_of, encodings_at, set_encodings_at, request_at, input_at, cut_text_at, body_at, typed_at, message_at}
use Rattle.client_wire.specs.Message.{IsSetPixelFormat, AreNumbers, IsSetEncodings, IsRequest, IsMessage}
use Rattle.client_wire.proofs.MessageTypes.{type_again, type_number_is}
use Rattle.client_wire.proofs.Fronts.{typed_read, pixel_format_read, head_read, encodings_read, request_read, input_read, text_read}

-- the only field of a message, to its end
last_field : (n : ℕ) (bytes f rest : List ℕ) → field {E = WireFault} n bytes ≡ Got f rest → rest ≡ [] → (bytes ≡ f) × (length f ≡ n)
last_field n bytes f rest e none =
    let is = field_front n bytes f rest (field_got n bytes f rest e) in
    (is.0 ∙ ap (λ z. f ++ z) none ∙ append-nil f, is.1)

judged_got : (r : Result Format PixelFormatFault) (rest : List ℕ) (m : ClientMessage) → judged r rest ≡ Got m []
    → (f : Format) × (r ≡ Ok f) × (messages.SetPixelFormat f ≡ m) × (rest ≡ [])
judged_got (Ok f) rest m e =
    let is : messages.SetPixelFormat f ≡ m = cc in
    let none : rest ≡ [] = cc in
    (f, refl, is, none)
judged_got (Err g) rest m e = absurd (cc)

pixel_format_is : (body : List ℕ) (m : ClientMessage) → set_pixel_format_at body ≡ Got m [] → IsMessage (0 ∷ body) m
unfolding set_pixel_format_at
pixel_format_is body m e =
    let b = bind_got (field 19 body) (λ f rest. judged (format_at (drop 3 f)) rest) m [] e in
    let j = judged_got (format_at (drop 3 b.value)) b.rest m b.then in
    let whole = last_field 19 body b.value b.rest b.first j.3 in
    let accepted = accepted_is (drop 3 b.value) j.0 j.1 in
    let format : IsSetPixelFormat (0 ∷ body) j.0 = record {
      padding = take 3 b.value;
      format = drop 3 b.value;
      bytes_are = ap (λ z. 0 ∷ z) (whole.0 ∙ sym (take-append-drop 3 b.value));
      padding_length = length-take-le 3 b.value (omega (arith, whole.1));
      format_length = length-drop 3 b.value ∙ omega (arith, whole.1);
      is = accepted.is;
      true_color = flag_some (slice_index (drop 3 b.value) 3) accepted.color;
      valid = accepted.valid;
    } in
    subst (IsMessage (0 ∷ body)) j.2 format

-- numbers of four bytes each
numbers_are : (count : ℕ) (list : List ℕ) → length list ≡ 4 * count → (length (numbers_of list) ≡ count) × AreNumbers (numbers_of list) list
numbers_are zero [] e = (refl, refl)
numbers_are zero (a ∷ list) e = absurd (omega arith)
numbers_are (suc count) [] e = absurd (omega arith)
numbers_are (suc count) (a ∷ []) e = absurd (omega arith)
numbers_are (suc count) (a ∷ b ∷ []) e = absurd (omega arith)
numbers_are (suc count) (a ∷ b ∷ c ∷ []) e = absurd (omega arith)
numbers_are (suc count) (a ∷ b ∷ c ∷ d ∷ list) e =
    let others = numbers_are count list (omega arith) in
    (ap suc others.0, (a ∷ b ∷ c ∷ d ∷ [], list, refl, refl, refl, others.1))

encodings_are : (body : List ℕ) (m : ClientMessage) → set_encodings_at body ≡ Got m [] → IsMessage (2 ∷ body) m
unfolding set_encodings_at encodings_at
encodings_are body m e =
    let h = bind_got (field 3 body) (λ f rest. encodings_at (u16_at f 1) rest) m [] e in
    let head = field_front 3 body h.value h.rest (field_got 3 body h.value h.rest h.first) in
    let n : ℕ = u16_at h.value 1 in
    let b = bind_got (field (4 * n) h.rest) (λ f rest. Got (messages.SetEncodings (numbers_of f)) rest) m [] h.then in
    let last = b.then in
    let is : messages.SetEncodings (numbers_of b.value) ≡ m = cc in
    let none : b.rest ≡ [] = cc in
    let list = last_field (4 * n) h.rest b.value b.rest b.first none in
    let numbers = numbers_are n b.value list.1 in
    let three = three_numbers h.value head.1 in
    let encodings : IsSetEncodings (2 ∷ body) (numbers_of b.value) = record {
      padding = slice_index h.value 0;
      high = slice_index h.value 1;
      low = slice_index h.value 2;
      list = b.value;
      bytes_are = ap (λ z. 2 ∷ z) (head.0 ∙ ap (λ z. z ++ h.rest) three)
          ∙ ap (λ z. 2 ∷ slice_index h.value 0 ∷ slice_index h.value 1 ∷ slice_index h.value 2 ∷ z) list.0;
      count_is = numbers.0;
      list_is = numbers.1;
    } in
    subst (IsMessage (2 ∷ body)) is encodings

-- the flag and the area of a request
request_of : (f : List ℕ) → length f ≡ 9 → IsRequest (3 ∷ f) (is_flag (slice_index f 0)) (area_at f 1)
request_of [] e = absurd (omega arith)
request_of (flag ∷ numbers) e = record {
  flag = flag;
  numbers = numbers;
  bytes_are = refl;
  numbers_length = omega arith;
  incremental_is = refl;
  area_is = refl;
}

request_is : (body : List ℕ) (m : ClientMessage) → request_at body ≡ Got m [] → IsMessage (3 ∷ body) m
unfolding request_at
request_is body m e =
    let b = bind_got (field 9 body) (λ f rest. Got (messages.Request (is_flag (slice_index f 0)) (area_at f 1)) rest) m [] e in
    let last = b.then in
    let is : messages.Request (is_flag (slice_index b.value 0)) (area_at b.value 1) ≡ m = cc in
    let none : b.rest ≡ [] = cc in
    let whole = last_field 9 body b.value b.rest b.first none in
    let f : List ℕ = b.value in
    let request = subst (λ (z : List ℕ). IsRequest (3 ∷ z) (is_flag (slice_index f 0)) (area_at f 1)) (sym whole.0) (request_of f whole.1) in
    subst (IsMessage (3 ∷ body)) is request

-- an input message that is read to its end
input_is : (type : ClientMessageType) (left : ℕ) (body : List ℕ) (m : ClientMessage) → input_at type left body ≡ Got m [] → (messages.Input type ≡ m) × (length body ≡ left)
unfolding input_at
input_is type left body m e =
    let b = bind_got (field left body) (λ f rest. Got (messages.Input type) rest) m [] e in
    let last = b.then in
    let is : messages.Input type ≡ m = cc in
    let none : b.rest ≡ [] = cc in
    let whole = last_field left body b.value b.rest b.first none in
    (is, ap length whole.0 ∙ whole.1)

key_is : (body : List ℕ) (m : ClientMessage) → input_at types.KeyEvent 7 body ≡ Got m [] → IsMessage (4 ∷ body) m
key_is body m e =
    let i = input_is types.KeyEvent 7 body m e in
    subst (IsMessage (4 ∷ body)) i.0 (inl (refl, (body, refl, i.1)))

pointer_is : (body : List ℕ) (m : ClientMessage) → input_at types.PointerEvent 5 body ≡ Got m [] → IsMessage (5 ∷ body) m
pointer_is body m e =
    let i = input_is types.PointerEvent 5 body m e in
    subst (IsMessage (5 ∷ body)) i.0 (inr (inl (refl, (body, refl, i.1))))

text_is : (body : List ℕ) (m : ClientMessage) → cut_text_at body ≡ Got m [] → IsMessage (6 ∷ body) m
unfolding cut_text_at
text_is body m e =
    let h = bind_got (field 7 body) (λ f rest. input_at types.ClientCutText (u32_at f 3) rest) m [] e in
    let head = field_front 7 body h.value h.rest (field_got 7 body h.value h.rest h.first) in
    let i = input_is types.ClientCutText (u32_at h.value 3) h.rest m h.then in
    subst (IsMessage (6 ∷ body)) i.0 (inr (inr (refl, (h.value, h.rest, ap (λ z. 6 ∷ z) head.0, head.1, i.1))))

-- the body of each type
body_is : (type : ClientMessageType) (body : List ℕ) (m : ClientMessage) → body_at type body ≡ Got m [] → IsMessage (number_of type ∷ body) m
body_is types.SetPixelFormat body m e = pixel_format_is body m e
body_is types.SetEncodings body m e = encodings_are body m e
body_is types.FramebufferUpdateRequest body m e = request_is body m e
body_is types.KeyEvent body m e = key_is body m e
body_is types.PointerEvent body m e = pointer_is body m e
body_is types.ClientCutText body m e = text_is body m e

typed_is : (number : ℕ) (type : Option ClientMessageType) (body : List ℕ) (m : ClientMessage) → type_of number ≡ type → typed_at type body ≡ Got m []
    → IsMessage (number ∷ body) m
typed_is number (Some type) body m is e = subst (λ n. IsMessage (n ∷ body) m) (type_number_is number type is) (body_is type body m e)
typed_is number None body m is e = absurd (cc)

pub read_is_message : (bytes : List ℕ) (m : ClientMessage) → message_at bytes ≡ Got m [] → IsMessage bytes m
unfolding message_at
read_is_message bytes m e =
    let b = bind_got (field 1 bytes) (λ number rest. typed_at (type_of (slice_index number 0)) rest) m [] e in
    let t = field_front 1 bytes b.value b.rest (field_got 1 bytes b.value b.rest b.first) in
    let is : bytes ≡ slice_index b.value 0 ∷ b.rest = t.0 ∙ ap (λ z. z ++ b.rest) (one_number b.value t.1) in
    rw is (typed_is (slice_index b.value 0) (type_of (slice_index b.value 0)) b.rest m refl b.then)

-- what bytes of a known type are read as
pub type_read : (type : ClientMessageType) (bytes body : List ℕ) → bytes ≡ number_of type ∷ body → message_at bytes ≡ body_at type body
type_read type bytes body is =
    typed_read bytes (number_of type ∷ []) body (Some type) (ap (field {E = WireFault} 1) is ∙ field-whole {E = WireFault} 1 (number_of type ∷ []) body refl) (type_again type)

pub whole_again : (n : ℕ) (f : List ℕ) → length f ≡ n → field {E = WireFault} n f ≡ Got f []
whole_again n f e = ap (field {E = WireFault} n) (sym (append-nil f)) ∙ field-whole {E = WireFault} n f [] e

format_again : (bytes : List ℕ) (f : Format) → IsSetPixelFormat bytes f → message_at bytes ≡ Got (messages.SetPixelFormat f) []
format_again bytes f is =
    let body : List ℕ = is.padding ++ is.format in
    let length_is : length body ≡ 19 = length-append is.padding is.format ∙ omega (arith, is.padding_length, is.format_length) in
    let following : drop 3 body ≡ is.format = drop_at is.padding is.format 3 is.padding_length in
    let ok : format_at (drop 3 body) ≡ Ok f = ap format_at following ∙ is_accepted is.format f is.is is.true_color is.valid in
    type_read types.SetPixelFormat bytes body is.bytes_are ∙ pixel_format_read body body [] (whole_again 19 body length_is)
    ∙ ap (λ r. judged r []) ok

four_numbers : (f : List ℕ) → length f ≡ 4 → f ≡ slice_index f 0 ∷ slice_index f 1 ∷ slice_index f 2 ∷ slice_index f 3 ∷ []
four_numbers [] e = absurd (omega arith)
four_numbers (a ∷ []) e = absurd (omega arith)
four_numbers (a ∷ b ∷ []) e = absurd (omega arith)
four_numbers (a ∷ b ∷ c ∷ []) e = absurd (omega arith)
four_numbers (a ∷ b ∷ c ∷ d ∷ []) e = refl
four_numbers (a ∷ b ∷ c ∷ d ∷ g ∷ f) e = absurd (omega arith)

numbers_again : (ns : List ℤ) (list : List ℕ) → AreNumbers ns list → (length list ≡ 4 * length ns) × (numbers_of list ≡ ns)
numbers_again [] list none = rw none (refl, refl)
numbers_again (n ∷ ns) list (four, rest, is, whole, number, others) =
    let more = numbers_again ns rest others in
    let cells = four_numbers four whole in
    let all : list ≡ slice_index four 0 ∷ slice_index four 1 ∷ slice_index four 2 ∷ slice_index four 3 ∷ rest = is ∙ ap (λ z. z ++ rest) cells in
    rw all (omega (arith, more.0), rw (number, more.1) refl)

encodings_again : (bytes : List ℕ) (ns : List ℤ) → IsSetEncodings bytes ns → message_at bytes ≡ Got (messages.SetEncodings ns) []
encodings_again bytes ns is =
    let head : List ℕ = is.padding ∷ is.high ∷ is.low ∷ [] in
    let numbers = numbers_again ns is.list is.list_is in
    let count : length is.list ≡ 4 * (256 * is.high + is.low) = numbers.0 ∙ ap (λ n. 4 * n) is.count_is in
    type_read types.SetEncodings bytes (head ++ is.list) is.bytes_are
    ∙ head_read (head ++ is.list) head is.list (256 * is.high + is.low) (field-whole {E = WireFault} 3 head is.list refl) refl
    ∙ encodings_read (256 * is.high + is.low) is.list is.list [] (whole_again (4 * (256 * is.high + is.low)) is.list count)
    ∙ ap (λ n. Got (messages.SetEncodings n) []) numbers.1

request_again : (bytes : List ℕ) (incremental : Bool) (area : Area) → IsRequest bytes incremental area
    → message_at bytes ≡ Got (messages.Request incremental area) []
request_again bytes incremental area is =
    let body : List ℕ = is.flag ∷ is.numbers in
    type_read types.FramebufferUpdateRequest bytes body is.bytes_are ∙ request_read body body [] (whole_again 9 body (ap suc is.numbers_length))
    ∙ rw (is.incremental_is, is.area_is) refl

pub message_is_read : (bytes : List ℕ) (m : ClientMessage) → IsMessage bytes m → message_at bytes ≡ Got m []
message_is_read bytes (messages.SetPixelFormat f) is = format_again bytes f is
message_is_read bytes (messages.SetEncodings ns) is = encodings_again bytes ns is
message_is_read bytes (messages.Request incremental area) is = request_again bytes incremental area is
message_is_read bytes (messages.Input type) (inl (four, (body, is, whole))) =
    type_read types.KeyEvent bytes body is ∙ input_read types.KeyEvent 7 body body [] (whole_again 7 body whole) ∙ ap (λ t. Got (messages.Input t) []) (sym four)
message_is_read bytes (messages.Input type) (inr (inl (five, (body, is, whole)))) =
    type_read types.PointerEvent bytes body is ∙ input_read types.PointerEvent 5 body body [] (whole_again 5 body whole) ∙ ap (λ t. Got (messages.Input t) []) (sym five)
message_is_read bytes (messages.Input type) (inr (inr (six, (head, text, is, seven, whole)))) =
    type_read types.ClientCutText bytes (head ++ text) is
    ∙ text_read (head ++ text) head text (u32_at head 3) (field-whole {E = WireFault} 7 head text seven) refl
    ∙ input_read types.ClientCutText (u32_at head 3) text text [] (whole_again (u32_at head 3) text whole) ∙ ap (λ t. Got (messages.Input t) []) (sym six)
