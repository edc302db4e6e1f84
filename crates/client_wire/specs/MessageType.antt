-- The types of a viewer's messages, by their numbers (RFC 6143, section 7.5).
use Rattle.std.specs.Prelude.{ℕ, nat_eq, Option, Some, None, if◌then◌else◌}
use Rattle.client_wire.specs.declared.message_type.ClientMessageType.{ClientMessageType}
use Rattle.client_wire.specs.declared.message_type.ClientMessageType.TheVariants as types

abbrev pub number_of : ClientMessageType → ℕ
number_of types.SetPixelFormat = 0
number_of types.SetEncodings = 2
number_of types.FramebufferUpdateRequest = 3
number_of types.KeyEvent = 4
number_of types.PointerEvent = 5
number_of types.ClientCutText = 6

-- the type of a number
abbrev pub type_of : ℕ → Option ClientMessageType
type_of number =
    if nat_eq number 0 then Some types.SetPixelFormat
    else (if nat_eq number 2 then Some types.SetEncodings
    else (if nat_eq number 3 then Some types.FramebufferUpdateRequest
    else (if nat_eq number 4 then Some types.KeyEvent
    else (if nat_eq number 5 then Some types.PointerEvent
    else (if nat_eq number 6 then Some types.ClientCutText
    else None)))))
