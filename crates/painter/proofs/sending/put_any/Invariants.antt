use Rattle.std.proofs.Common.{ℕ, ◌<◌}
use Rattle.pixel_format.specs.Canvas.{nth}
use Rattle.rect_codec.specs.Picture.{pixel_at}
use Rattle.rect_codec.specs.Written.{IsPixelOf}
use Rattle.painter.specs.Sent.{seen_colors}
use Rattle.painter.proofs.sending.put_any.Given as goal

-- the pixels so far are those of their colours
abbrev pub invariant-loop-k : goal.invariant-loop-k
invariant-loop-k l = (j : ℕ) → j < l.k → IsPixelOf l.format (nth (seen_colors l.format l.row) j) (pixel_at l.format l.bytes j)
