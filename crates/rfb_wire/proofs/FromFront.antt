-- What the grammar says of bytes whose first field is known.
use Rattle.std.proofs.Common.{◌≡◌, ℕ, suc, ◌+◌, ◌-◌, true, false, List, [], ◌∷◌, ◌++◌, length, length-append, drop, refl, sym, ap, ◌∙◌, append_assoc, arith}
use Rattle.std.proofs.lemmas.List.{append-nil, drop_at}
use Rattle.terms.specs.Reading.{Reading, Got, More, Bad, ◌>>=◌, field, guard}
use Rattle.terms.specs.declared.area.Area.{Area}
use Rattle.rfb_wire.specs.declared.message.Rectangle.{Rectangle}
use Rattle.pixel_format.specs.Format.{host_format}
use Rattle.terms.specs.Number.{u16_at}
use Rattle.rect_data.specs.declared.encoding.Encoding.{Encoding}
use Rattle.rect_data.specs.Grammar.{encoding_of, is_inside, data_at, measured}
use Rattle.rect_data.proofs.Content.{data_read}
use Rattle.terms.specs.declared.wire_fault.WireFault.{WireFault}
use Rattle.terms.specs.declared.wire_fault.WireFault.TheVariants as faults
use Rattle.terms.specs.Number.{signed}
use Rattle.rfb_wire.specs.Grammar.{area_of, encoding_number, content_at, encoded_at, rectangle_at, rectangles_at, update_at, Recorded}
use Rattle.rfb_wire.specs.Plain.{Says}
use Rattle.client_wire.proofs.Fronts.{unless_memory_map}
use Rattle.std.proofs.Common.{Option, Some, None, Result, Ok, Err}

pub header_short : (width height at : ℕ) (bytes : List ℕ) → field {E = WireFault} 12 bytes ≡ More → rectangle_at width height at bytes ≡ More
unfolding rectangle_at
header_short width height at bytes e = rw e refl

header_read : (width height at : ℕ) (bytes header rest : List ℕ) → field {E = WireFault} 12 bytes ≡ Got header rest
    → rectangle_at width height at bytes ≡ guard (is_inside width height (area_of header)) faults.OutsideScreen
    (encoded_at width height (encoding_number header) (encoding_of (encoding_number header)) (area_of header) (at + 12) rest)
unfolding rectangle_at
header_read width height at bytes header rest e = rw e refl

pub outside : (width height at : ℕ) (bytes header rest : List ℕ) → field {E = WireFault} 12 bytes ≡ Got header rest → is_inside width height (area_of header) ≡ false
    → rectangle_at width height at bytes ≡ Bad faults.OutsideScreen
outside width height at bytes header rest e out = header_read width height at bytes header rest e ∙ rw out refl

pub unknown : (width height at : ℕ) (bytes header rest : List ℕ) → field {E = WireFault} 12 bytes ≡ Got header rest → is_inside width height (area_of header) ≡ true
    → encoding_of (encoding_number header) ≡ None → rectangle_at width height at bytes ≡ Bad (faults.Encoding (signed (encoding_number header)))
unknown width height at bytes header rest e inside other = header_read width height at bytes header rest e ∙ rw (inside, other) refl

-- a rectangle whose header is read, by its data
content_of : (width height at : ℕ) (bytes header rest : List ℕ) (encoding : Encoding) → field {E = WireFault} 12 bytes ≡ Got header rest
    → is_inside width height (area_of header) ≡ true → encoding_of (encoding_number header) ≡ Some encoding
    → rectangle_at width height at bytes ≡ content_at width height encoding (area_of header) (at + 12) rest
content_of width height at bytes header rest encoding e inside is = header_read width height at bytes header rest e ∙ rw (inside, is) refl

-- what is said of the data is said of the rectangle
abbrev pub rectangle_by : Area → Encoding → ℕ → Result (Option ℕ) WireFault → List ℕ → Reading Rectangle WireFault
rectangle_by area encoding at (Ok (Some n)) rest = Got (record { area = area; encoding = encoding; start = at; end = at + n }) (drop n rest)
rectangle_by area encoding at (Ok None) rest = More
rectangle_by area encoding at (Err f) rest = Bad f

by_reading : (width height at : ℕ) (area : Area) (encoding : Encoding) (rest : List ℕ) (r : Reading Unit WireFault)
    → data_at host_format width height encoding area rest ≡ r
    → content_at width height encoding area at rest ≡ rectangle_by area encoding at (measured (length rest) r) rest
unfolding content_at
by_reading width height at area encoding rest (Got x after) e =
    let d = data_read host_format width height encoding area rest after x e in
    let size : length rest ≡ length d.front + length after = ap length d.bytes_are ∙ length-append d.front after in
    let n : length rest - length after ≡ length d.front = omega (arith, size) in
    let following : drop (length rest - length after) rest ≡ after = ap (λ k. drop k rest) n ∙ ap (drop (length d.front)) d.bytes_are ∙ drop_at d.front after (length d.front) refl in
    let end : (at + length rest) - length after ≡ at + (length rest - length after) = omega (arith, size) in
    rw (e, following) (ap (λ z. Got (record { area = area; encoding = encoding; start = at; end = z }) after) end)
by_reading width height at area encoding rest More e = rw e refl
by_reading width height at area encoding rest (Bad f) e = rw e refl

pub rectangle_measured : (width height at : ℕ) (bytes header rest : List ℕ) (encoding : Encoding) (m : Result (Option ℕ) WireFault) → field {E = WireFault} 12 bytes ≡ Got header rest
    → is_inside width height (area_of header) ≡ true → encoding_of (encoding_number header) ≡ Some encoding
    → m ≡ measured (length rest) (data_at host_format width height encoding (area_of header) rest)
    → rectangle_at width height at bytes ≡ rectangle_by (area_of header) encoding (at + 12) m rest
rectangle_measured width height at bytes header rest encoding m e inside is by =
    content_of width height at bytes header rest encoding e inside is
    ∙ by_reading width height (at + 12) (area_of header) encoding rest (data_at host_format width height encoding (area_of header) rest) refl
    ∙ ap (λ z. rectangle_by (area_of header) encoding (at + 12) z rest) (sym by)

-- rectangles after those which are found
pub others_after : ℕ → ℕ → ℕ → ℕ → List Rectangle → List ℕ → Reading (List Rectangle) WireFault
others_after width height count at found bytes = rectangles_at width height count at bytes >>= λ others rest. Got (found ++ others) rest

pub others_begin : (width height count at : ℕ) (bytes : List ℕ) → others_after width height count at [] bytes ≡ rectangles_at width height count at bytes
unfolding others_after
others_begin width height count at bytes = same (rectangles_at width height count at bytes)
  where
    same : (r : Reading (List Rectangle) WireFault) → (r >>= λ others rest. Got ([] ++ others) rest) ≡ r
    same (Got x rest) = refl
    same More = refl
    same (Bad f) = refl

pub others_end : (width height at : ℕ) (found : List Rectangle) (bytes : List ℕ) → others_after width height 0 at found bytes ≡ Got found bytes
unfolding others_after rectangles_at
others_end width height at found bytes = rw append-nil refl

next_found : (found : List Rectangle) (r : Rectangle) (q : Reading (List Rectangle) WireFault)
    → ((q >>= λ others after. Got (r ∷ others) after) >>= λ others rest. Got (found ++ others) rest) ≡ (q >>= λ others rest. Got (found ++ r ∷ [] ++ others) rest)
next_found found r (Got x rest) = rw append_assoc refl
next_found found r More = refl
next_found found r (Bad f) = refl

pub others_next : (width height count at : ℕ) (found : List Rectangle) (bytes rest : List ℕ) (r : Rectangle) → rectangle_at width height at bytes ≡ Got r rest
    → others_after width height (suc count) at found bytes ≡ others_after width height count r.end (found ++ r ∷ []) rest
unfolding others_after rectangles_at
others_next width height count at found bytes rest r e = rw e (next_found found r (rectangles_at width height count r.end rest))

pub others_more : (width height count at : ℕ) (found : List Rectangle) (bytes : List ℕ) → rectangle_at width height at bytes ≡ More
    → others_after width height (suc count) at found bytes ≡ More
unfolding others_after rectangles_at
others_more width height count at found bytes e = rw e refl

pub others_bad : (width height count at : ℕ) (found : List Rectangle) (bytes : List ℕ) (f : WireFault) → rectangle_at width height at bytes ≡ Bad f
    → others_after width height (suc count) at found bytes ≡ Bad f
unfolding others_after rectangles_at
others_bad width height count at found bytes f e = rw e refl

pub type_short : (width height : ℕ) (bytes : List ℕ) → field {E = WireFault} 1 bytes ≡ More → update_at width height bytes ≡ More
unfolding update_at
type_short width height bytes e = rw e refl

pub head_short : (width height : ℕ) (bytes kind head : List ℕ) → field {E = WireFault} 1 bytes ≡ Got kind head → field {E = WireFault} 3 head ≡ More
    → update_at width height bytes ≡ More
unfolding update_at
head_short width height bytes kind head e short = rw (e, short) refl

pub head_read : (width height count : ℕ) (bytes kind head numbers body : List ℕ) → field {E = WireFault} 1 bytes ≡ Got kind head → field {E = WireFault} 3 head ≡ Got numbers body
    → u16_at numbers 1 ≡ count → update_at width height bytes ≡ (rectangles_at width height count 4 body >>= λ rectangles after. Got (Recorded rectangles) after)
unfolding update_at
head_read width height count bytes kind head numbers body e whole is = rw (e, whole, is) refl

-- the rectangles of an update are those of a message
pub says_recorded : {X : Type 0} (value : X → List Rectangle) (rest : X → List ℕ) (o : Result (Option X) WireFault) (r : Reading (List Rectangle) WireFault)
    → Says value rest o r → Says (λ x. Recorded (value x)) rest o (r >>= λ rectangles after. Got (Recorded rectangles) after)
says_recorded value rest (Ok (Some x)) r e = rw e refl
says_recorded value rest (Ok None) r e = rw e refl
says_recorded value rest (Err f) r e =
    unless_memory_map f (r ≡ Bad f) ((r >>= λ rectangles after. Got (Recorded rectangles) after) ≡ Bad f) (λ is. rw is refl) e
