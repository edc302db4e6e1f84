use Rattle.std.proofs.Common.{drop}
use Rattle.painter.specs.Framebuffer.{Framebuffer, SameSize}
use Rattle.viewer_session.specs.Shown.{AreAllPaintedOver}
use Rattle.viewer_session.proofs.painting.paint_all.Given as goal

-- what paints the messages that are left paints all of them
abbrev pub invariant-loop-stamped : goal.invariant-loop-stamped
invariant-loop-stamped l = record {
  size : SameSize l.fn.screen l.screen;
  painted : (end : Framebuffer) → AreAllPaintedOver l.screen end (drop l.stamped-index l.messages) → AreAllPaintedOver l.fn.screen end l.messages;
}
