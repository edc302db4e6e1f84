-- A key screen: an update that paints a whole screen, whatever stood there before.
use Rattle.std.specs.Prelude.{◌≡◌, ◌⊎◌, ℕ, [], ◌∷◌}
use Rattle.pixel_format.specs.Canvas.{Picture, Agree}
use Rattle.terms.specs.Area.{whole_area}
use Rattle.rect_data.specs.declared.encoding.Encoding.TheVariants.{Raw, Hextile}
use Rattle.rfb_wire.specs.declared.message.Rectangle.{Rectangle}
use Rattle.rfb_wire.specs.Host.{Host}
use Rattle.painter.specs.Picture.{painted_message}

-- a rectangle of all pixels, in an encoding that doesn't look at what stood there
pub record IsWhole (width height : ℕ) (r : Rectangle) : Type 0 where
  pub area : r.area ≡ whole_area width height
  pub encoding : (r.encoding ≡ Raw) ⊎ (r.encoding ≡ Hextile)

-- The message is for a screen of this size. It has one rectangle, over all pixels, and paints this
-- picture over any other.
pub record IsKey (width height : ℕ) (picture : Picture) (m : Host) : Type 0 where
  pub width_is : m.width ≡ width
  pub height_is : m.height ≡ height
  pub rectangle : Rectangle
  pub only : m.rectangles ≡ rectangle ∷ []
  pub whole : IsWhole width height rectangle
  pub paints : (before : Picture) → Agree width height (painted_message m before) picture
