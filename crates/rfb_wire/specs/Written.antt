-- A host's update as it is written. Padding is 0.
use Rattle.std.specs.Prelude.{ℕ, ◌+◌, ◌*◌, List, ◌++◌}
use Rattle.terms.specs.declared.area.Area.{Area}
use Rattle.client_wire.specs.Written.{one_rectangle_head}
use Rattle.rfb_wire.specs.declared.message.Rectangle.{Rectangle}
use Rattle.rect_data.specs.declared.encoding.Encoding.TheVariants as encodings

-- FramebufferUpdate of one rectangle in the encoding Raw, whose number is 0 (RFC 6143, sections 7.6.1
-- and 7.7.1)
abbrev pub raw_head : Area → List ℕ
raw_head a = one_rectangle_head a 0

-- and its pixels
abbrev pub raw_update_bytes : Area → List ℕ → List ℕ
raw_update_bytes a pixels = raw_head a ++ pixels

-- the rectangle, with its offsets in it
abbrev pub raw_rectangle : Area → Rectangle
raw_rectangle a = record { area = a; encoding = encodings.Raw; start = 16; end = 16 + 4 * (a.w * a.h) }
