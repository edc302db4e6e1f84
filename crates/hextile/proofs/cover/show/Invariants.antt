use Rattle.std.proofs.Common.{◌≡◌, ℕ, ◌<◌, ◌/◌, ◌%◌, cond, get_or, length}
use Rattle.pixel_format.specs.Canvas.{covers}
use Rattle.hextile.proofs.cover.show.Given as goal

-- the rows so far are shown
abbrev pub invariant-loop-row : goal.invariant-loop-row
invariant-loop-row l =
    (i : ℕ) → i < length l.initial.shown → get_or l.shown i 0
    ≡ cond (covers l.part.x l.part.y l.part.w l.row (i % l.w) (i / l.w)) l.number (get_or l.initial.shown i 0)
