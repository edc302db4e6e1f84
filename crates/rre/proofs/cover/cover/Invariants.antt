use Rattle.std.proofs.Common.{◌≡◌, ◌*◌, ◌≤◌, length, take}
use Rattle.pixel_format.specs.Number.{number_color, colors_of}
use Rattle.rre.specs.Numbered.{others_in}
use Rattle.rre.specs.Encoded.{Reaches}
use Rattle.rre.proofs.cover.cover.Given as goal

abbrev pub invariant-loop-row : goal.invariant-loop-row
invariant-loop-row l = record {
  columns : length l.reach.items ≡ l.ground.pixels.w;
  apart : length l.parts.items ≤ others_in l.ground.background (take (l.row * l.ground.pixels.w) l.ground.pixels.numbers.now);
  reaches : Reaches (colors_of l.format l.ground.pixels.numbers.now) l.ground.pixels.w l.ground.pixels.h (number_color l.format l.ground.background) l.parts.items l.reach.items 0 l.row;
}
