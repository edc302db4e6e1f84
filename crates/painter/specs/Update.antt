-- What an update that was written in the host format is, and paints.
use Rattle.std.specs.Prelude.{◌≡◌, ℕ, List, [], ◌∷◌}
use Rattle.pixel_format.specs.declared.Color.{Color}
use Rattle.pixel_format.specs.Canvas.{Picture}
use Rattle.terms.specs.declared.format.Format.{Format}
use Rattle.terms.specs.declared.area.Area.{Area}
use Rattle.rect_codec.specs.Update.{HasColors}
use Rattle.rfb_wire.specs.declared.message.Rectangle.{Rectangle}
use Rattle.rfb_wire.specs.Host.{host_of, IsRecorded}
use Rattle.painter.specs.Picture.{painted_message}

-- The bytes are a message of one rectangle, of this area, for a screen of this size that is recorded
-- in this format. Painted over any picture, it gives the area the colours.
pub record PaintsColors (format : Format) (width height : ℕ) (area : Area) (colors : List Color) (bytes : List ℕ) : Type 0 where
  pub rectangle : Rectangle
  pub area_is : rectangle.area ≡ area
  pub recorded : IsRecorded (host_of format width height bytes (rectangle ∷ []))
  pub paints : (before : Picture) → HasColors area colors before (painted_message (host_of format width height bytes (rectangle ∷ [])) before)
