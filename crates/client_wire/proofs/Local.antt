-- What bytes say they say whatever follows them: each part of the grammar is local.
use Rattle.std.proofs.Common.{ℕ, ◌*◌, List, drop, slice_index, refl}
use Rattle.std.specs.Prelude.{Option, Some, None, Result, Ok, Err, ◌++◌}
use Rattle.terms.specs.Reading.{Reading, Got, ◌>>=◌, field, Extends, IsLocal}
use Rattle.pixel_format.specs.Format.{Format}
use Rattle.pixel_format.specs.Written.{format_at, is_flag}
use Rattle.terms.specs.declared.pixel_format_fault.PixelFormatFault.{PixelFormatFault}
use Rattle.terms.proofs.Readings.{field_local, bind_local}
use Rattle.terms.specs.Area.{area_at}
use Rattle.terms.specs.Number.{u16_at, u32_at}
use Rattle.client_wire.specs.declared.message_type.ClientMessageType.{ClientMessageType}
use Rattle.client_wire.specs.declared.message_type.ClientMessageType.TheVariants as types
use Rattle.client_wire.specs.declared.message.ClientMessage.{ClientMessage}
use Rattle.client_wire.specs.declared.message.ClientMessage.TheVariants as messages
use Rattle.terms.specs.declared.wire_fault.WireFault.{WireFault}
use Rattle.client_wire.specs.MessageType.{type_of}
use Rattle.client_wire.specs.Grammar.{judged, set_pixel_format_at, numbers_of, encodings_at, set_encodings_at, request_at, input_at, cut_text_at, body_at, typed_at, message_at}

judged_local : (r : Result Format PixelFormatFault) (rest more : List ℕ) → Extends (judged r rest) more (judged r (rest ++ more))
judged_local (Ok f) rest more = refl
judged_local (Err e) rest more = refl

-- a field, and what follows from it
field_then : (n : ℕ) (f : List ℕ → List ℕ → Reading ClientMessage WireFault) (bytes more : List ℕ)
    → ((x rest : List ℕ) → Extends (f x rest) more (f x (rest ++ more))) → Extends (field n bytes >>= f) more (field n (bytes ++ more) >>= f)
field_then n f bytes more then = bind_local (field n bytes) (field n (bytes ++ more)) more f f (field_local WireFault n bytes more) then

pixel_format_local : IsLocal set_pixel_format_at
unfolding set_pixel_format_at
pixel_format_local bytes more =
    field_then 19 (λ f rest. judged (format_at (drop 3 f)) rest) bytes more (λ f rest. judged_local (format_at (drop 3 f)) rest more)

encodings_local : (count : ℕ) → IsLocal (encodings_at count)
unfolding encodings_at
encodings_local count bytes more =
    field_then (4 * count) (λ f rest. Got (messages.SetEncodings (numbers_of f)) rest) bytes more (λ f rest. refl)

set_encodings_local : IsLocal set_encodings_at
unfolding set_encodings_at
set_encodings_local bytes more =
    field_then 3 (λ f rest. encodings_at (u16_at f 1) rest) bytes more (λ f rest. encodings_local (u16_at f 1) rest more)

request_local : IsLocal request_at
unfolding request_at
request_local bytes more =
    field_then 9 (λ f rest. Got (messages.Request (is_flag (slice_index f 0)) (area_at f 1)) rest) bytes more (λ f rest. refl)

input_local : (type : ClientMessageType) (left : ℕ) → IsLocal (input_at type left)
unfolding input_at
input_local type left bytes more = field_then left (λ f rest. Got (messages.Input type) rest) bytes more (λ f rest. refl)

text_local : IsLocal cut_text_at
unfolding cut_text_at
text_local bytes more = field_then 7 (λ f rest. input_at types.ClientCutText (u32_at f 3) rest) bytes more (λ f rest. input_local types.ClientCutText (u32_at f 3) rest more)

body_local : (type : ClientMessageType) → IsLocal (body_at type)
body_local types.SetPixelFormat bytes more = pixel_format_local bytes more
body_local types.SetEncodings bytes more = set_encodings_local bytes more
body_local types.FramebufferUpdateRequest bytes more = request_local bytes more
body_local types.KeyEvent bytes more = input_local types.KeyEvent 7 bytes more
body_local types.PointerEvent bytes more = input_local types.PointerEvent 5 bytes more
body_local types.ClientCutText bytes more = text_local bytes more

typed_local : (type : Option ClientMessageType) → IsLocal (typed_at type)
typed_local (Some type) bytes more = body_local type bytes more
typed_local None bytes more = refl

pub message_local : IsLocal message_at
unfolding message_at
message_local bytes more =
    field_then 1 (λ number rest. typed_at (type_of (slice_index number 0)) rest) bytes more (λ number rest. typed_local (type_of (slice_index number 0)) rest more)
