use Rattle.std.proofs.Common.{◌≡◌, ◌-◌, ◌≤◌, length, take, map}
use Rattle.pixel_format.specs.Pixel.{converted}
use Rattle.pixel_format.proofs.format.PixelFormat.convert_eights.Given as goal

-- the colours so far are converted
abbrev pub invariant-eights : goal.invariant-eights
invariant-eights l = record {
  within : l.i ≤ length l.colors;
  size : length l.row ≡ length l.colors;
  done : take l.i l.row ≡ map (converted l.self) (take l.i l.colors);
}

abbrev pub decreases-eights : goal.decreases-eights
decreases-eights l = length l.colors - l.i
