use Rattle.std.proofs.Common.{◌≡◌, ℕ, ◌<◌, ◌*◌}
use Rattle.painter.specs.Pixels.{color_of, pixel_color_at}
use Rattle.painter.proofs.row.fill_long_row.Given as goal

-- the pixels so far have the colour
abbrev pub invariant-loop-k : goal.invariant-loop-k
invariant-loop-k l = (j : ℕ) → j < l.k * 32 → pixel_color_at l.row j ≡ color_of l.pixel
