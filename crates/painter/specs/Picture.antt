-- What the messages of a host paint (RFC 6143, section 7.7): their rectangles, in the host format.
use Rattle.std.specs.Prelude.{ℕ, List, [], ◌∷◌, slice_range}
use Rattle.pixel_format.specs.Format.{host_format}
use Rattle.pixel_format.specs.Canvas.{Picture}
use Rattle.rect_codec.specs.Picture.{painted_data}
use Rattle.rfb_wire.specs.declared.message.Rectangle.{Rectangle}
use Rattle.rfb_wire.specs.Host.{Host}

abbrev pub black : Picture
black x y = record { r = 0; g = 0; b = 0 }

abbrev pub painted_rectangle : List ℕ → Rectangle → Picture → Picture
painted_rectangle bytes r before = painted_data host_format r.encoding r.area (slice_range bytes r.start r.end) before

-- The rectangles are painted in their order, and each sees what the ones before it left.
unfoldable pub painted_rectangles : List ℕ → List Rectangle → Picture → Picture
painted_rectangles bytes [] before = before
painted_rectangles bytes (r ∷ rectangles) before = painted_rectangles bytes rectangles (painted_rectangle bytes r before)

-- what a message leaves of a picture
abbrev pub painted_message : Host → Picture → Picture
painted_message message before = painted_rectangles message.bytes message.rectangles before

-- what messages leave of a picture, in their order
unfoldable pub painted_over : Picture → List Host → Picture
painted_over before [] = before
painted_over before (message ∷ messages) = painted_over (painted_message message before) messages

-- the picture that messages paint from black
abbrev pub painted : List Host → Picture
painted messages = painted_over black messages
