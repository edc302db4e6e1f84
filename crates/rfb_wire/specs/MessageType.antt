-- The types of a host's messages, by their numbers (RFC 6143, section 7.6).
use Rattle.std.specs.Prelude.{ℕ, nat_eq, Option, Some, None, if◌then◌else◌}
use Rattle.rfb_wire.specs.declared.message_type.HostMessageType.{HostMessageType}
use Rattle.rfb_wire.specs.declared.message_type.HostMessageType.TheVariants as types

abbrev pub number_of : HostMessageType → ℕ
number_of types.FramebufferUpdate = 0
number_of types.SetColorMapEntries = 1
number_of types.Bell = 2
number_of types.ServerCutText = 3

-- the type of a number
abbrev pub type_of : ℕ → Option HostMessageType
type_of number =
    if nat_eq number 0 then Some types.FramebufferUpdate
    else (if nat_eq number 1 then Some types.SetColorMapEntries
    else (if nat_eq number 2 then Some types.Bell
    else (if nat_eq number 3 then Some types.ServerCutText
    else None)))
