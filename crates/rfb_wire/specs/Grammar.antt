-- The messages of a host (RFC 6143, sections 7.6 and 7.7), read from the front of a list of bytes.
-- Each field is judged once it is whole, in the order of the fields: so the first fault is the one
-- that is met.
use Rattle.std.specs.Prelude.{ℕ, nat_lt, zero, suc, ◌+◌, ◌-◌, ◌*◌, List, [], ◌∷◌, length, slice_index, nat_eq, Option, Some, None, if◌then◌else◌}
use Rattle.pixel_format.specs.Format.{host_format}
use Rattle.terms.specs.Limits.{limits}
use Rattle.terms.specs.declared.format.Format.{Format}
use Rattle.terms.specs.Reading.{Reading, Got, Bad, ◌>>=◌, field, guard, within}
use Rattle.terms.specs.Area.{area_at}
use Rattle.terms.specs.Number.{u16_at, u32_at}
use Rattle.terms.specs.declared.area.Area.{Area}
use Rattle.rfb_wire.specs.declared.message.Rectangle.{Rectangle}
use Rattle.rect_data.specs.declared.encoding.Encoding.{Encoding}
use Rattle.rect_data.specs.Grammar.{encoding_of, is_inside, data_at}
use Rattle.terms.specs.Number.{signed}
use Rattle.terms.specs.declared.wire_fault.WireFault.{WireFault}
use Rattle.terms.specs.declared.wire_fault.WireFault.TheVariants as faults

-- The header of a rectangle is 12 bytes: x, y, width, height, and the encoding of its pixels
-- (section 7.6.1).
unfoldable pub area_of : List ℕ → Area
area_of f = area_at f 0

unfoldable pub encoding_number : List ℕ → ℕ
encoding_number f = u32_at f 8

-- the data of a rectangle of this area (section 7.7). `at` is the offset of the data in the
-- message.
unfoldable pub content_at : ℕ → ℕ → Encoding → Area → ℕ → List ℕ → Reading Rectangle WireFault
content_at width height encoding area at bytes = data_at host_format width height encoding area bytes >>= λ content rest.
    Got (record { area = area; encoding = encoding; start = at; end = (at + length bytes) - length rest }) rest

-- the same by the number of the encoding, if it is one of those that are read
abbrev pub encoded_at : ℕ → ℕ → ℕ → Option Encoding → Area → ℕ → List ℕ → Reading Rectangle WireFault
encoded_at width height number (Some encoding) area at bytes = content_at width height encoding area at bytes
encoded_at width height number None area at bytes = Bad (faults.Encoding (signed number))

-- a rectangle of an update, at its offset in the message (section 7.6.1)
unfoldable pub rectangle_at : ℕ → ℕ → ℕ → List ℕ → Reading Rectangle WireFault
rectangle_at width height at bytes = field 12 bytes >>= λ head rest.
    guard (is_inside width height (area_of head)) faults.OutsideScreen
    (encoded_at width height (encoding_number head) (encoding_of (encoding_number head)) (area_of head) (at + 12) rest)

-- as many rectangles, one after the other
unfoldable pub rectangles_at : ℕ → ℕ → ℕ → ℕ → List ℕ → Reading (List Rectangle) WireFault
rectangles_at width height zero at bytes = Got [] bytes
rectangles_at width height (suc count) at bytes = rectangle_at width height at bytes >>= λ first rest.
    rectangles_at width height count first.end rest >>= λ others after. Got (first ∷ others) after

-- what a whole message is to a recorder
pub data Message : Type 0 where
  -- it is recorded; it has these rectangles
  Recorded : List Rectangle → Message
  -- it is read over
  ReadOver : Message

-- FramebufferUpdate, type 0: a byte of padding, the number of rectangles, and the rectangles
-- (section 7.6.1)
unfoldable pub update_at : ℕ → ℕ → List ℕ → Reading Message WireFault
update_at width height bytes = field 1 bytes >>= λ type head. field 3 head >>= λ f rest.
    rectangles_at width height (u16_at f 1) 4 rest >>= λ rectangles after. Got (Recorded rectangles) after

-- so many bytes to the end of a message that is read over
unfoldable pub read_over : ℕ → List ℕ → Reading Message WireFault
read_over n bytes = field n bytes >>= λ skipped rest. Got ReadOver rest

-- SetColorMapEntries, after its type 1: a byte of padding, the first colour, the number of colours,
-- and six bytes for each (section 7.6.2). It is read over, since pixels of a true-color format need
-- no map.
unfoldable pub color_map_at : List ℕ → Reading Message WireFault
color_map_at bytes = field 5 bytes >>= λ f rest. read_over (6 * u16_at f 3) rest

-- the greatest number of bytes of a text that is recorded
abbrev pub text_limit : ℕ
text_limit = 65536

-- the text itself
unfoldable pub text_data_at : ℕ → List ℕ → Reading Message WireFault
text_data_at n bytes = field n bytes >>= λ text rest. Got (Recorded []) rest

-- ServerCutText, after its type 3: three bytes of padding, the text's length, and the text (section
-- 7.6.4)
unfoldable pub text_at : List ℕ → Reading Message WireFault
text_at bytes = field 7 bytes >>= λ f rest.
    if nat_lt text_limit (u32_at f 3) then read_over (u32_at f 3) rest else text_data_at (u32_at f 3) rest

-- what follows the type of a message that is no update; Bell, type 2, has no more bytes (section
-- 7.6.3)
unfoldable pub other_at : ℕ → List ℕ → Reading Message WireFault
other_at type bytes =
    if nat_eq type 1 then color_map_at bytes
    else (if nat_eq type 2 then Got (Recorded []) bytes
    else (if nat_eq type 3 then text_at bytes
    else Bad faults.UnknownType))

-- The message that bytes begin with, by its type (section 7.6), for a screen of this size. An
-- update has at most `limit` bytes.
unfoldable pub message_at : ℕ → ℕ → ℕ → List ℕ → Reading Message WireFault
message_at limit width height bytes = field 1 bytes >>= λ type rest.
    if nat_eq (slice_index type 0) 0 then within limit faults.TooLong (update_at width height) bytes
    else other_at (slice_index type 0) rest

-- the greatest number of bytes of an update that is recorded in this format
abbrev pub message_limit : Format → ℕ
message_limit format = (limits format).message
