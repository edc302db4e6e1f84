-- What follows from a whole field: one equation for each stage.
use Rattle.std.proofs.Common.{◌≡◌, ℕ, ◌*◌, ◌<◌, List, [], ◌++◌, length, drop, slice_index, refl}
use Rattle.terms.specs.Reading.{Got, More}
use Rattle.terms.proofs.Readings.{field-whole, field-short}
use Rattle.pixel_format.specs.Written.{format_at, is_flag}
use Rattle.terms.specs.Area.{area_at}
use Rattle.terms.specs.Number.{u16_at, u32_at}
use Rattle.client_wire.specs.declared.message_type.ClientMessageType.TheVariants as types
use Rattle.client_wire.specs.declared.message.ClientMessage.TheVariants as messages
use Rattle.client_wire.specs.MessageType.{type_of}
use Rattle.terms.specs.declared.wire_fault.WireFault.{WireFault}
use Rattle.client_wire.specs.declared.partial_message.Stage.{Stage}
use Rattle.client_wire.specs.declared.partial_message.Stage.TheVariants as stages
use Rattle.client_wire.specs.Grammar.{judged, numbers_of, encodings_at, input_at, typed_at}
use Rattle.client_wire.specs.PartialMessage.{wants_of, resume}
use Rattle.client_wire.proofs.Fronts.{type_short, typed_read, pixel_format_short, pixel_format_read, head_short, head_read, encodings_short, encodings_read, request_short, request_read, input_read, text_short, text_read}

pub type_goes : (f more : List ℕ) → length f ≡ 1 → resume stages.Type (f ++ more) ≡ typed_at (type_of (slice_index f 0)) more
unfolding resume
type_goes f more whole = typed_read (f ++ more) f more (type_of (slice_index f 0)) (field-whole {E = WireFault} 1 f more whole) refl

pub format_goes : (f more : List ℕ) → length f ≡ 19 → resume stages.PixelFormat (f ++ more) ≡ judged (format_at (drop 3 f)) more
unfolding resume
format_goes f more whole = pixel_format_read (f ++ more) f more (field-whole {E = WireFault} 19 f more whole)

pub head_goes : (f more : List ℕ) (count : ℕ) → length f ≡ 3 → u16_at f 1 ≡ count → resume stages.EncodingsHead (f ++ more) ≡ encodings_at count more
unfolding resume
head_goes f more count whole is = head_read (f ++ more) f more count (field-whole {E = WireFault} 3 f more whole) is

-- no encodings
pub no_encodings : (more : List ℕ) → encodings_at 0 more ≡ Got (messages.SetEncodings []) more
no_encodings more = encodings_read 0 more [] more (field-whole {E = WireFault} 0 [] more refl)

pub encodings_go : (f more : List ℕ) (count : ℕ) → length f ≡ 4 * count → resume (stages.Encodings count) (f ++ more) ≡ Got (messages.SetEncodings (numbers_of f)) more
unfolding resume
encodings_go f more count whole = encodings_read count (f ++ more) f more (field-whole {E = WireFault} (4 * count) f more whole)

pub request_goes : (f more : List ℕ) → length f ≡ 9
    → resume stages.Request (f ++ more) ≡ Got (messages.Request (is_flag (slice_index f 0)) (area_at f 1)) more
unfolding resume
request_goes f more whole = request_read (f ++ more) f more (field-whole {E = WireFault} 9 f more whole)

pub text_goes : (f more : List ℕ) (count : ℕ) → length f ≡ 7 → u32_at f 3 ≡ count → resume stages.TextHead (f ++ more) ≡ input_at types.ClientCutText count more
unfolding resume
text_goes f more count whole is = text_read (f ++ more) f more count (field-whole {E = WireFault} 7 f more whole) is

-- no text
pub no_text : (more : List ℕ) → input_at types.ClientCutText 0 more ≡ Got (messages.Input types.ClientCutText) more
no_text more = input_read types.ClientCutText 0 more [] more (field-whole {E = WireFault} 0 [] more refl)

-- a field that isn't whole
pub resume-short : (stage : Stage) (bytes : List ℕ) → length bytes < wants_of stage → resume stage bytes ≡ More
unfolding resume
resume-short stages.Type bytes short = type_short bytes (field-short {E = WireFault} 1 bytes short)
resume-short stages.PixelFormat bytes short = pixel_format_short bytes (field-short {E = WireFault} 19 bytes short)
resume-short stages.EncodingsHead bytes short = head_short bytes (field-short {E = WireFault} 3 bytes short)
resume-short (stages.Encodings count) bytes short = encodings_short count bytes (field-short {E = WireFault} (4 * count) bytes short)
resume-short stages.Request bytes short = request_short bytes (field-short {E = WireFault} 9 bytes short)
resume-short stages.TextHead bytes short = text_short bytes (field-short {E = WireFault} 7 bytes short)
