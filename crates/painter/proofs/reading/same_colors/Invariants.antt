use Rattle.std.proofs.Common.{◌≡◌, ℕ, ◌<◌, ◌+◌}
use Rattle.painter.specs.Framebuffer.{color_at}
use Rattle.painter.proofs.reading.same_colors.Given as goal

-- the first rows are the same
abbrev pub invariant-loop-row : goal.invariant-loop-row
invariant-loop-row g l = (x y : ℕ) → x < l.fn.area.w → y < l.row
    → color_at (g.R.Rows.shown l.one) (l.fn.area.x + x) (l.fn.area.y + y) ≡ color_at (g.R.Rows.shown l.other) (l.fn.area.x + x) (l.fn.area.y + y)
