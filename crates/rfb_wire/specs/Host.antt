-- One recorded message of a host.
use Rattle.std.specs.Prelude.{◌≡◌, ℕ, ◌≤◌, Bool, false, nat_eq, List, [], ◌∷◌, length, slice_range}
use Rattle.pixel_format.specs.Format.{host_format}
use Rattle.terms.specs.declared.format.Format.{Format}
use Rattle.terms.specs.Area.{LiesWithin}
use Rattle.terms.specs.Reading.{Got}
use Rattle.rfb_wire.specs.declared.message.Rectangle.{Rectangle}
use Rattle.rect_data.specs.Data.{AreData}
use Rattle.rfb_wire.specs.Grammar.{message_at, message_limit, Recorded}

-- a message for a screen of this size, which is recorded in this format: its bytes, and the offsets
-- of its rectangles in them
pub record Host : Type 0 where
  pub format : Format
  pub width : ℕ
  pub height : ℕ
  pub bytes : List ℕ
  pub rectangles : List Rectangle

abbrev pub host_of : Format → ℕ → ℕ → List ℕ → List Rectangle → Host
host_of format width height bytes rectangles =
    record { format = format; width = width; height = height; bytes = bytes; rectangles = rectangles }

-- A message is told to be an update by its first byte, the type (RFC 6143, section 7.6.1).
abbrev pub is_update : List ℕ → Bool
is_update [] = false
is_update (type ∷ bytes) = nat_eq type 0

-- the bytes are one recorded message, of these rectangles, and of no more bytes than its format
-- allows if it is an update
abbrev pub IsRecorded : Host → Type 0
IsRecorded m = message_at (message_limit m.format) m.width m.height m.bytes ≡ Got (Recorded m.rectangles) []

-- A rectangle lies within the screen, and its data, in the host format, within the message.
pub record IsPlaced (m : Host) (r : Rectangle) : Type 0 where
  pub within : LiesWithin m.width m.height r.area
  pub ordered : r.start ≤ r.end
  pub in_bytes : r.end ≤ length m.bytes
  pub content : AreData host_format m.width m.height r.encoding r.area (slice_range m.bytes r.start r.end)
