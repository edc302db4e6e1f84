-- What the grammar says of bytes whose first field is known.
use Rattle.std.proofs.Common.{◌≡◌, ℕ, ◌*◌, List, drop, refl, slice_index}
use Rattle.std.specs.Prelude.{Option, Result, Ok, Err}
use Rattle.terms.proofs.Readings.{bind_got}
use Rattle.terms.specs.declared.pixel_format_fault.PixelFormatFault.{PixelFormatFault}
use Rattle.pixel_format.specs.Format.{Format}
use Rattle.terms.specs.Reading.{Got, More, field}
use Rattle.pixel_format.specs.Written.{format_at, is_flag}
use Rattle.terms.specs.Area.{area_at}
use Rattle.terms.specs.Number.{u16_at, u32_at}
use Rattle.terms.specs.declared.wire_fault.WireFault.{WireFault}
use Rattle.terms.specs.declared.wire_fault.WireFault.TheVariants as faults
use Rattle.client_wire.specs.declared.message_type.ClientMessageType.{ClientMessageType}
use Rattle.client_wire.specs.declared.message_type.ClientMessageType.TheVariants as types
use Rattle.client_wire.specs.declared.message.ClientMessage.TheVariants as messages
use Rattle.client_wire.specs.MessageType.{type_of}
use Rattle.terms.specs.Fault.{UnlessMemory}
use Rattle.client_wire.specs.Grammar.{judged, set_pixel_format_at, numbers_of, encodings_at, set_encodings_at, request_at, input_at, cut_text_at, typed_at, message_at}

pub pixel_format_short : (bytes : List ℕ) → field {E = WireFault} 19 bytes ≡ More → set_pixel_format_at bytes ≡ More
unfolding set_pixel_format_at
pixel_format_short bytes e = rw e refl

pub pixel_format_read : (bytes f rest : List ℕ) → field {E = WireFault} 19 bytes ≡ Got f rest → set_pixel_format_at bytes ≡ judged (format_at (drop 3 f)) rest
unfolding set_pixel_format_at
pixel_format_read bytes f rest e = rw e refl

pub head_read : (bytes f rest : List ℕ) (count : ℕ) → field {E = WireFault} 3 bytes ≡ Got f rest → u16_at f 1 ≡ count → set_encodings_at bytes ≡ encodings_at count rest
unfolding set_encodings_at
head_read bytes f rest count e is = rw (e, is) refl

pub head_short : (bytes : List ℕ) → field {E = WireFault} 3 bytes ≡ More → set_encodings_at bytes ≡ More
unfolding set_encodings_at
head_short bytes e = rw e refl

pub encodings_short : (count : ℕ) (bytes : List ℕ) → field {E = WireFault} (4 * count) bytes ≡ More → encodings_at count bytes ≡ More
unfolding encodings_at
encodings_short count bytes e = rw e refl

pub encodings_read : (count : ℕ) (bytes f rest : List ℕ) → field {E = WireFault} (4 * count) bytes ≡ Got f rest
    → encodings_at count bytes ≡ Got (messages.SetEncodings (numbers_of f)) rest
unfolding encodings_at
encodings_read count bytes f rest e = rw e refl

pub request_short : (bytes : List ℕ) → field {E = WireFault} 9 bytes ≡ More → request_at bytes ≡ More
unfolding request_at
request_short bytes e = rw e refl

pub request_read : (bytes f rest : List ℕ) → field {E = WireFault} 9 bytes ≡ Got f rest
    → request_at bytes ≡ Got (messages.Request (is_flag (slice_index f 0)) (area_at f 1)) rest
unfolding request_at
request_read bytes f rest e = rw e refl

pub input_short : (type : ClientMessageType) (left : ℕ) (bytes : List ℕ) → field {E = WireFault} left bytes ≡ More → input_at type left bytes ≡ More
unfolding input_at
input_short type left bytes e = rw e refl

pub input_read : (type : ClientMessageType) (left : ℕ) (bytes f rest : List ℕ) → field {E = WireFault} left bytes ≡ Got f rest → input_at type left bytes ≡ Got (messages.Input type) rest
unfolding input_at
input_read type left bytes f rest e = rw e refl

pub text_short : (bytes : List ℕ) → field {E = WireFault} 7 bytes ≡ More → cut_text_at bytes ≡ More
unfolding cut_text_at
text_short bytes e = rw e refl

pub text_read : (bytes f rest : List ℕ) (count : ℕ) → field {E = WireFault} 7 bytes ≡ Got f rest → u32_at f 3 ≡ count → cut_text_at bytes ≡ input_at types.ClientCutText count rest
unfolding cut_text_at
text_read bytes f rest count e is = rw (e, is) refl

pub type_short : (bytes : List ℕ) → field {E = WireFault} 1 bytes ≡ More → message_at bytes ≡ More
unfolding message_at
type_short bytes e = rw e refl

pub typed_read : (bytes f rest : List ℕ) (type : Option ClientMessageType) → field {E = WireFault} 1 bytes ≡ Got f rest → type_of (slice_index f 0) ≡ type
    → message_at bytes ≡ typed_at type rest
unfolding message_at
typed_read bytes f rest type e is = rw (e, is) refl

-- what holds of a fault holds unless memory ran out
pub unless_memory : (f : WireFault) (P : Type 0) → P → UnlessMemory f P
unless_memory faults.UnknownType P p = p
unless_memory faults.OutsideScreen P p = p
unless_memory (faults.Encoding n) P p = p
unless_memory faults.TooLong P p = p
unless_memory faults.BadRre P p = p
unless_memory faults.BadHextile P p = p
unless_memory faults.SourceOutside P p = p
unless_memory (faults.BadFormat e) P p = p
unless_memory faults.NoMemory P p = tt

pub unless_memory_map : (f : WireFault) (P Q : Type 0) → (P → Q) → UnlessMemory f P → UnlessMemory f Q
unless_memory_map faults.UnknownType P Q m p = m p
unless_memory_map faults.OutsideScreen P Q m p = m p
unless_memory_map (faults.Encoding n) P Q m p = m p
unless_memory_map faults.TooLong P Q m p = m p
unless_memory_map faults.BadRre P Q m p = m p
unless_memory_map faults.BadHextile P Q m p = m p
unless_memory_map faults.SourceOutside P Q m p = m p
unless_memory_map (faults.BadFormat e) P Q m p = m p
unless_memory_map faults.NoMemory P Q m p = tt

-- no input message is a format, a list of encodings or a request
judged_never : (r : Result Format PixelFormatFault) (after : List ℕ) (type : ClientMessageType) (rest : List ℕ) → judged r after ≡ Got (messages.Input type) rest → ⊥
judged_never (Ok f) after type rest e = absurd (cc)
judged_never (Err g) after type rest e = absurd (cc)

pub pixel_format_never : (bytes : List ℕ) (type : ClientMessageType) (rest : List ℕ) → set_pixel_format_at bytes ≡ Got (messages.Input type) rest → ⊥
unfolding set_pixel_format_at
pixel_format_never bytes type rest e =
    let b = bind_got (field {E = WireFault} 19 bytes) (λ f after. judged (format_at (drop 3 f)) after) (messages.Input type) rest e in
    judged_never (format_at (drop 3 b.value)) b.rest type rest b.then

pub encodings_never : (count : ℕ) (bytes : List ℕ) (type : ClientMessageType) (rest : List ℕ) → encodings_at count bytes ≡ Got (messages.Input type) rest → ⊥
unfolding encodings_at
encodings_never count bytes type rest e =
    let b = bind_got (field {E = WireFault} (4 * count) bytes) (λ f after. Got (messages.SetEncodings (numbers_of f)) after) (messages.Input type) rest e in
    let then = b.then in absurd (cc)

pub request_never : (bytes : List ℕ) (type : ClientMessageType) (rest : List ℕ) → request_at bytes ≡ Got (messages.Input type) rest → ⊥
unfolding request_at
request_never bytes type rest e =
    let b = bind_got (field {E = WireFault} 9 bytes)
    (λ f after. Got (messages.Request (is_flag (slice_index f 0)) (area_at f 1)) after) (messages.Input type) rest e in
    let then = b.then in absurd (cc)
