use Rattle.std.proofs.Common.{◌≡◌, length}
use Rattle.std.specs.Prelude.{All}
use Rattle.pixel_format.specs.Pixel.{IsWithin}
use Rattle.wire_tests.proofs.tests.samples.converted.Given as goal

abbrev pub invariant-loop-color : goal.invariant-loop-color
invariant-loop-color l = record {
  within : All (IsWithin l.format) l.all.items;
  size : length l.all.items ≡ l.color-index;
}
