use Rattle.std.proofs.Common.{◌≡◌, ◌++◌, take, map}
use Rattle.std.specs.List.{flat_map}
use Rattle.pixel_format.specs.Pixel.{ArePixels, pixel_of}
use Rattle.pixel_format.specs.Number.{number_color}
use Rattle.terms.specs.Appending.{Appends}
use Rattle.pixel_format.proofs.format.PixelFormat.append_sized_numbers.Given as goal

-- the pixels of the numbers so far
abbrev pub invariant-loop-number : goal.invariant-loop-number
invariant-loop-number l = record {
  ok : Appends (ArePixels l.self (take l.number-index (map (number_color l.self) l.numbers))) l.fn.bytes.items l.bytes.items;
  written : l.bytes.items ≡ l.fn.bytes.items ++ flat_map (pixel_of l.self) (take l.number-index (map (number_color l.self) l.numbers));
}
