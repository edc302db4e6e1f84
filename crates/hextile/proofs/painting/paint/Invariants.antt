use Rattle.std.proofs.Common.{◌≡◌, List}
use Rattle.hextile.specs.Grammar.{Tile}
use Rattle.hextile.specs.Data.{IsData}
use Rattle.hextile.proofs.PaintedTiles.{TilesProgress}
use Rattle.hextile.proofs.painting.paint.Given as goal

-- the tiles before the bytes that are left are painted
abbrev pub invariant-loop-number : goal.invariant-loop-number
invariant-loop-number g l = record {
  width : g.C.Canvas.width l.canvas ≡ g.C.Canvas.width l.fn.canvas;
  height : g.C.Canvas.height l.canvas ≡ g.C.Canvas.height l.fn.canvas;
  background : g.C.Canvas.holds l.colors.background;
  foreground : g.C.Canvas.holds l.colors.foreground;
  painted : (tiles : List Tile) → IsData l.format l.area.w l.area.h l.bytes tiles
      → TilesProgress l.format l.area.x l.area.y l.area.w l.area.h tiles l.number l.rest l.colors
      (g.C.Canvas.width l.fn.canvas) (g.C.Canvas.height l.fn.canvas) (g.C.Canvas.picture l.fn.canvas) (g.C.Canvas.picture l.canvas);
}
