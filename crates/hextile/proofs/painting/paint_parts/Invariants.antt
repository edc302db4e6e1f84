use Rattle.std.proofs.Common.{◌≡◌, ◌-◌, ℕ, List}
use Rattle.terms.specs.Reading.{Got}
use Rattle.hextile.specs.declared.fields.Subrectangle.{Subrectangle}
use Rattle.hextile.specs.Grammar.{subrectangles_at}
use Rattle.hextile.proofs.PaintedParts.{PartsProgress}
use Rattle.hextile.proofs.painting.paint_parts.Given as goal

-- the subrectangles before the bytes that are left are painted
abbrev pub invariant-loop : goal.invariant-loop
invariant-loop g l = record {
  width : g.C.Canvas.width l.canvas ≡ g.C.Canvas.width l.fn.canvas;
  height : g.C.Canvas.height l.canvas ≡ g.C.Canvas.height l.fn.canvas;
  painted : (parts : List Subrectangle) (after : List ℕ)
      → subrectangles_at l.format l.colored l.area.w l.area.h l.count l.bytes ≡ Got parts after
      → PartsProgress l.format l.colored l.area.x l.area.y l.area.w l.area.h (l.count - l.counter) l.foreground parts after l.rest
      (g.C.Canvas.width l.fn.canvas) (g.C.Canvas.height l.fn.canvas) (g.C.Canvas.picture l.fn.canvas) (g.C.Canvas.picture l.canvas);
}
