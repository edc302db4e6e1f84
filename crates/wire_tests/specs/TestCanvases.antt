-- A sheet: the colours of its 320 by 120 pixels, by rows.
use Rattle.std.specs.Prelude.{◌≡◌, ℕ, ◌+◌, ◌*◌, List, slice_index_or}
use Rattle.pixel_format.specs.declared.Color.{Color}
use Rattle.pixel_format.specs.Canvas.{Picture}

-- the colour of a pixel
abbrev pub color_at : List Color → Picture
color_at test_canvas x y = slice_index_or test_canvas (320 * y + x) (record { r = 0; g = 0; b = 0 })
