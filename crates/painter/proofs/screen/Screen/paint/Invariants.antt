use Rattle.std.proofs.Common.{◌≡◌, take}
use Rattle.pixel_format.specs.Canvas.{Agree}
use Rattle.painter.specs.Framebuffer.{color_at}
use Rattle.painter.specs.Picture.{painted_rectangles}
use Rattle.painter.proofs.screen.Screen.paint.Given as goal

-- the rectangles so far are painted
abbrev pub invariant-loop-number : goal.invariant-loop-number
invariant-loop-number l = record {
  width : l.self.width ≡ l.fn.self.width;
  height : l.self.height ≡ l.fn.self.height;
  painted : Agree l.fn.self.width l.fn.self.height (color_at l.self) (painted_rectangles l.message.bytes (take l.number l.message.rectangles) (color_at l.fn.self));
}
