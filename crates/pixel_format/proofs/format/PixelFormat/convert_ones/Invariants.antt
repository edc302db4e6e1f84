use Rattle.std.proofs.Common.{◌≡◌, take, map}
use Rattle.pixel_format.specs.Pixel.{converted}
use Rattle.pixel_format.proofs.format.PixelFormat.convert_ones.Given as goal

-- the colours so far are converted
abbrev pub invariant-loop-k : goal.invariant-loop-k
invariant-loop-k l = take l.k l.row ≡ map (converted l.self) (take l.k l.colors)
