use Rattle.std.proofs.Common.{◌+◌, ◌*◌, ◌-◌, ◌≤◌, length, take}
use Rattle.pixel_format.specs.Number.{number_color, colors_of}
use Rattle.rre.specs.Numbered.{others_in}
use Rattle.rre.specs.Encoded.{Reaches}
use Rattle.rre.proofs.cover.cover_row.Given as goal

abbrev pub invariant-loop-column : goal.invariant-loop-column
invariant-loop-column l = record {
  within : l.column ≤ length l.reach;
  apart : length l.parts.items ≤ others_in l.ground.background (take (l.row * length l.initial.reach + l.column) l.ground.pixels.numbers.now);
  reaches : Reaches (colors_of l.format l.ground.pixels.numbers.now) (length l.initial.reach) l.ground.pixels.h (number_color l.format l.ground.background) l.parts.items l.reach l.column l.row;
}

abbrev pub decreases-loop-column : goal.decreases-loop-column
decreases-loop-column l = length l.reach - l.column
