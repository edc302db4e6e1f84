use Rattle.std.proofs.Common.{◌≡◌, ℕ, ◌<◌}
use Rattle.pixel_format.specs.Pixel.{IsScreenColor}
use Rattle.pixel_format.specs.Canvas.{nth}
use Rattle.painter.specs.Pixels.{pixel_color_at}
use Rattle.painter.proofs.colors.read_row.Given as goal

-- the pixels so far have their colours
abbrev pub invariant-loop-k : goal.invariant-loop-k
invariant-loop-k l = record {
  value : (j : ℕ) → j < l.k → nth l.colors j ≡ pixel_color_at l.pixels j;
  screen : (j : ℕ) → j < l.k → IsScreenColor (nth l.colors j);
}
