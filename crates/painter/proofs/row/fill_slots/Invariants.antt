use Rattle.std.proofs.Common.{◌≡◌, ℕ, ◌<◌}
use Rattle.painter.specs.Pixels.{color_of, pixel_color_at}
use Rattle.painter.proofs.row.fill_slots.Given as goal

abbrev pub invariant-loop-slot : goal.invariant-loop-slot
invariant-loop-slot l = (k : ℕ) → k < l.slot-index → pixel_color_at l.row k ≡ color_of l.pixel
