use Rattle.std.proofs.Common.{◌≡◌, ℕ, ◌<◌}
use Rattle.pixel_format.specs.Pixel.{host_color}
use Rattle.painter.specs.Pixels.{pixel_color_at, pixel_at}
use Rattle.painter.proofs.row.paint_row.Given as goal

abbrev pub invariant-loop-k : goal.invariant-loop-k
invariant-loop-k l = (j : ℕ) → j < l.k → pixel_color_at l.row j ≡ host_color (pixel_at l.bytes j)
