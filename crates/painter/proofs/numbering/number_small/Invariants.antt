use Rattle.std.proofs.Common.{ℕ, ◌<◌, get_or}
use Rattle.pixel_format.specs.Canvas.{nth}
use Rattle.painter.specs.Sent.{seen_colors}
use Rattle.painter.specs.Numbered.{HasNumber}
use Rattle.painter.proofs.numbering.number_small.Given as goal

-- the numbers so far are those of their pixels
abbrev pub invariant-loop-k : goal.invariant-loop-k
invariant-loop-k l = (j : ℕ) → j < l.k → HasNumber l.format (nth (seen_colors l.format l.row) j) (get_or l.numbers j 0)
