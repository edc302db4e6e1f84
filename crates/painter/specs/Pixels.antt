-- The pixels that a screen keeps, and their colours.
use Rattle.std.specs.Prelude.{ℕ, ◌+◌, ◌*◌, List, take, drop, slice_index_or}
use Rattle.std.proofs.Common.{lit<}
use Rattle.pixel_format.specs.declared.Color.{Color}
use Rattle.pixel_format.specs.Format.{host_format}
use Rattle.pixel_format.specs.Pixel.{channel_value}
use Rattle.painter.specs.declared.pixel.Pixel.{Pixel}

-- the colour of a pixel of this number in the host's format
abbrev pub color_of_number : ℕ → Color
color_of_number n = record {
  r = channel_value host_format.red n;
  g = channel_value host_format.green n;
  b = channel_value host_format.blue n;
}

abbrev pub color_of : Pixel → Color
color_of p = color_of_number p.number

abbrev pub black_pixel : Pixel
black_pixel = record { number = 0; short = lit< tt }

-- the colour of the pixel at an index, black past the end
abbrev pub pixel_color_at : List Pixel → ℕ → Color
pixel_color_at pixels k = color_of (slice_index_or pixels k black_pixel)

-- the colour of one of the pixels that are kept by rows
abbrev pub color_in : List Pixel → ℕ → ℕ → ℕ → Color
color_in pixels width x y = pixel_color_at pixels (y * width + x)

-- the pixel of this number: four bytes of the host format
abbrev pub pixel_at : List ℕ → ℕ → List ℕ
pixel_at bytes n = take 4 (drop (4 * n) bytes)
