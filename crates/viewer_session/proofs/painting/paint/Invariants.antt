use Rattle.std.proofs.Common.{drop}
use Rattle.painter.specs.Framebuffer.{Framebuffer, SameSize}
use Rattle.viewer_session.specs.Shown.{ArePaintedOver}
use Rattle.viewer_session.proofs.painting.paint.Given as goal

-- what paints the rectangles that are left paints all of them
abbrev pub invariant-loop-number : goal.invariant-loop-number
invariant-loop-number l = record {
  size : SameSize l.fn.screen l.screen;
  painted : (end : Framebuffer) → ArePaintedOver l.message.bytes l.screen end (drop l.number l.message.rectangles) → ArePaintedOver l.message.bytes l.fn.screen end l.message.rectangles;
}
