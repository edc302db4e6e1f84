use Rattle.std.proofs.Common.{inr, refl, lit<, lit≤}
use Rattle.pixel_format.proofs.format.PixelFormat.host.Goals as goal

pub invariant_of-result : goal.invariant_of-result
invariant_of-result c = record {
  whole = inr (inr refl);
  red = record { full = (8, lit≤ tt, refl); inside = lit< tt };
  green = record { full = (8, lit≤ tt, refl); inside = lit< tt };
  blue = record { full = (8, lit≤ tt, refl); inside = lit< tt };
  red_and_green = refl;
  red_and_blue = refl;
  green_and_blue = refl;
}
