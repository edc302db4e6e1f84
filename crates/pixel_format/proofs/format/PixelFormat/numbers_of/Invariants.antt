use Rattle.std.proofs.Common.{◌≡◌, map, take}
use Rattle.std.specs.Prelude.{All}
use Rattle.pixel_format.specs.Number.{number_color, IsNumber}
use Rattle.pixel_format.proofs.format.PixelFormat.numbers_of.Given as goal

-- the numbers of the colours so far
abbrev pub invariant-loop-color : goal.invariant-loop-color
invariant-loop-color l = record {
  colors : map (number_color l.self) l.numbers.items ≡ take l.color-index l.colors;
  numbers : All (IsNumber l.self) l.numbers.items;
}
