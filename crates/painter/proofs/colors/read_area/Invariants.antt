use Rattle.std.proofs.Common.{◌≡◌, ℕ, ◌+◌, ◌*◌, ◌<◌}
use Rattle.pixel_format.specs.Pixel.{IsScreenColor}
use Rattle.pixel_format.specs.Canvas.{nth}
use Rattle.painter.specs.Framebuffer.{color_at}
use Rattle.painter.proofs.colors.read_area.Given as goal

-- the first rows are read
abbrev pub invariant-loop-row : goal.invariant-loop-row
invariant-loop-row g l = record {
  value : (x y : ℕ) → x < l.fn.area.w → y < l.row → nth l.colors (y * l.fn.area.w + x) ≡ color_at (g.R.Rows.shown l.rows) (l.fn.area.x + x) (l.fn.area.y + y);
  screen : (k : ℕ) → k < l.row * l.fn.area.w → IsScreenColor (nth l.colors k);
}
