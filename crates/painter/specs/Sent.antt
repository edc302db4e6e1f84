-- What is sent of a screen: the colours of the pixels of an area, as a viewer's format has them.
use Rattle.std.specs.Prelude.{ℕ, ◌+◌, ◌*◌, List, map, take, drop}
use Rattle.std.specs.List.{flat_map, range_with_len}
use Rattle.pixel_format.specs.declared.Color.{Color}
use Rattle.pixel_format.specs.Format.{Format}
use Rattle.pixel_format.specs.Pixel.{converted}
use Rattle.terms.specs.declared.area.Area.{Area}
use Rattle.painter.specs.declared.pixel.Pixel.{Pixel}
use Rattle.painter.specs.Framebuffer.{Framebuffer}
use Rattle.painter.specs.Pixels.{color_of}

-- the colours of the pixels of an area in one of its rows, from the left
abbrev pub row_colors : Framebuffer → Area → ℕ → List Color
row_colors screen area row = take area.w (drop ((area.y + row) * screen.width + area.x) screen.slots)

-- and of all its pixels, by rows from the top
abbrev pub area_colors : Framebuffer → Area → List Color
area_colors screen area = flat_map (row_colors screen area) (range_with_len 0 area.h)

-- the same colours as the format has them
abbrev pub sent_colors : Format → Framebuffer → Area → List Color
sent_colors f screen area = map (converted f) (area_colors screen area)

-- the same of pixels that a screen keeps
abbrev pub seen_colors : Format → List Pixel → List Color
seen_colors f pixels = map (λ p. converted f (color_of p)) pixels
