-- The messages of a viewer (RFC 6143, section 7.5), read from the front of a list of bytes. Each
-- field is judged once it is whole, in the order of the fields: so the first fault is the one that
-- is met.
use Rattle.std.specs.Prelude.{ℕ, ℤ, ◌*◌, List, [], ◌∷◌, drop, slice_index, Option, Some, None, Result, Ok, Err}
use Rattle.terms.specs.Reading.{Reading, Got, Bad, ◌>>=◌, field}
use Rattle.pixel_format.specs.Format.{Format}
use Rattle.pixel_format.specs.Written.{format_at, is_flag}
use Rattle.terms.specs.declared.pixel_format_fault.PixelFormatFault.{PixelFormatFault}
use Rattle.terms.specs.Area.{area_at}
use Rattle.terms.specs.Number.{u16_at, u32_at}
use Rattle.terms.specs.Number.{signed}
use Rattle.client_wire.specs.declared.message_type.ClientMessageType.{ClientMessageType}
use Rattle.client_wire.specs.declared.message_type.ClientMessageType.TheVariants as types
use Rattle.client_wire.specs.declared.message.ClientMessage.{ClientMessage}
use Rattle.client_wire.specs.declared.message.ClientMessage.TheVariants as messages
use Rattle.terms.specs.declared.wire_fault.WireFault.{WireFault}
use Rattle.terms.specs.declared.wire_fault.WireFault.TheVariants as faults
use Rattle.client_wire.specs.MessageType.{type_of}

-- a format that is valid, or the first test that it fails
abbrev pub judged : Result Format PixelFormatFault → List ℕ → Reading ClientMessage WireFault
judged (Ok f) rest = Got (messages.SetPixelFormat f) rest
judged (Err e) rest = Bad (faults.BadFormat e)

-- SetPixelFormat, after its type 0: three bytes of padding, and the 16 bytes of a format (sections
-- 7.5.1 and 7.4)
unfoldable pub set_pixel_format_at : List ℕ → Reading ClientMessage WireFault
set_pixel_format_at bytes = field 19 bytes >>= λ f rest. judged (format_at (drop 3 f)) rest

-- signed numbers of four bytes each
abbrev pub numbers_of : List ℕ → List ℤ
numbers_of (a ∷ b ∷ c ∷ d ∷ rest) = signed (u32_at (a ∷ b ∷ c ∷ d ∷ []) 0) ∷ numbers_of rest
numbers_of _ = []

-- the numbers of so many encodings
unfoldable pub encodings_at : ℕ → List ℕ → Reading ClientMessage WireFault
encodings_at count bytes = field (4 * count) bytes >>= λ f rest. Got (messages.SetEncodings (numbers_of f)) rest

-- SetEncodings, after its type 2: a byte of padding, the number of encodings, and the number of
-- each (section 7.5.2)
unfoldable pub set_encodings_at : List ℕ → Reading ClientMessage WireFault
set_encodings_at bytes = field 3 bytes >>= λ f rest. encodings_at (u16_at f 1) rest

-- FramebufferUpdateRequest, after its type 3: the incremental flag, which is true when it isn't 0,
-- and x, y, width and height (section 7.5.3)
unfoldable pub request_at : List ℕ → Reading ClientMessage WireFault
request_at bytes = field 9 bytes >>= λ f rest.
    Got (messages.Request (is_flag (slice_index f 0)) (area_at f 1)) rest

-- an input message, of which so many bytes are left; whichever they are, the type alone is kept
unfoldable pub input_at : ClientMessageType → ℕ → List ℕ → Reading ClientMessage WireFault
input_at type left bytes = field left bytes >>= λ f rest. Got (messages.Input type) rest

-- ClientCutText, after its type 6: three bytes of padding, the text's length, and the text (section
-- 7.5.6)
unfoldable pub cut_text_at : List ℕ → Reading ClientMessage WireFault
cut_text_at bytes = field 7 bytes >>= λ f rest. input_at types.ClientCutText (u32_at f 3) rest

-- What follows the type of a message. KeyEvent, type 4, has seven more bytes: the down-flag, two
-- bytes of padding and the key (section 7.5.4). PointerEvent, type 5, has five: the button-mask, x
-- and y (section 7.5.5).
abbrev pub body_at : ClientMessageType → List ℕ → Reading ClientMessage WireFault
body_at types.SetPixelFormat bytes = set_pixel_format_at bytes
body_at types.SetEncodings bytes = set_encodings_at bytes
body_at types.FramebufferUpdateRequest bytes = request_at bytes
body_at types.KeyEvent bytes = input_at types.KeyEvent 7 bytes
body_at types.PointerEvent bytes = input_at types.PointerEvent 5 bytes
body_at types.ClientCutText bytes = cut_text_at bytes

-- the same, if the type is one of those that are read
abbrev pub typed_at : Option ClientMessageType → List ℕ → Reading ClientMessage WireFault
typed_at (Some type) bytes = body_at type bytes
typed_at None bytes = Bad faults.UnknownType

-- the message that bytes begin with, by its type's number
unfoldable pub message_at : List ℕ → Reading ClientMessage WireFault
message_at bytes = field 1 bytes >>= λ number rest. typed_at (type_of (slice_index number 0)) rest
