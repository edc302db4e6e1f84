use Rattle.std.proofs.Common.{◌≡◌, length}
use Rattle.rre.specs.Grammar.{Content}
use Rattle.rre.specs.Data.{IsData}
use Rattle.rre.proofs.Painted.{Progress}
use Rattle.rre.proofs.painting.paint.Given as goal

-- the subrectangles before the bytes that are left are painted
abbrev pub invariant-loop-rest : goal.invariant-loop-rest
invariant-loop-rest g l = record {
  width : g.C.Canvas.width l.canvas ≡ g.C.Canvas.width l.fn.canvas;
  height : g.C.Canvas.height l.canvas ≡ g.C.Canvas.height l.fn.canvas;
  painted : (content : Content) → IsData l.format l.area.w l.area.h l.bytes content
      → Progress l.format (g.C.Canvas.width l.fn.canvas) (g.C.Canvas.height l.fn.canvas) l.area.x l.area.y l.area.w l.area.h (g.C.Canvas.picture l.fn.canvas) (g.C.Canvas.picture l.canvas) content l.rest;
}

abbrev pub decreases-loop-rest : goal.decreases-loop-rest
decreases-loop-rest g l = length l.rest
