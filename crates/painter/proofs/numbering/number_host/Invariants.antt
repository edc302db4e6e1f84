use Rattle.std.proofs.Common.{ℕ, ◌<◌, get_or}
use Rattle.pixel_format.specs.Canvas.{nth}
use Rattle.pixel_format.specs.Format.{host_format}
use Rattle.painter.specs.Sent.{seen_colors}
use Rattle.painter.specs.Numbered.{HasNumber}
use Rattle.painter.proofs.numbering.number_host.Given as goal

-- the numbers so far are those of their pixels
abbrev pub invariant-loop-k : goal.invariant-loop-k
invariant-loop-k l = (j : ℕ) → j < l.k → HasNumber host_format (nth (seen_colors host_format l.row) j) (get_or l.numbers j 0)
