use Rattle.std.proofs.Common.{◌≡◌, ℕ, ◌<◌}
use Rattle.pixel_format.proofs.PixelsLaid.{pixels_upto}
use Rattle.pixel_format.proofs.canvas.Canvas.pixels.Given as goal

-- the first pixels are painted
abbrev pub invariant-loop-k : goal.invariant-loop-k
invariant-loop-k g l = record {
  width : g.Self.Canvas.width l.self ≡ g.Self.Canvas.width l.fn.self;
  height : g.Self.Canvas.height l.self ≡ g.Self.Canvas.height l.fn.self;
  shows : (column row : ℕ) → column < g.Self.Canvas.width l.fn.self → row < g.Self.Canvas.height l.fn.self
      → g.Self.Canvas.picture l.self column row
      ≡ pixels_upto l.format l.area.x l.area.y l.area.w l.area.h l.bytes l.k (g.Self.Canvas.picture l.fn.self) column row;
}
