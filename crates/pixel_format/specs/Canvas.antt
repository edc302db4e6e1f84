-- Pictures, and the areas of which they are painted.
use Rattle.std.specs.Prelude.{◌≡◌, ℕ, ◌+◌, ◌-◌, ◌*◌, ◌<◌, Bool, List, take, drop, slice_index_or, if◌then◌else◌}
use Rattle.terms.specs.Area.{is_in}
use Rattle.pixel_format.specs.declared.Color.{Color}
use Rattle.pixel_format.specs.Format.{Format, pixel_bytes}
use Rattle.pixel_format.specs.Pixel.{pixel_color}

-- a picture: the colour at each pixel, from its column and its row, counted from the left and the
-- top
abbrev pub Picture : Type 0
Picture = ℕ → ℕ → Color

-- the pixel (column, row) lies in the area of w by h whose upper left corner is (x, y)
abbrev pub covers : ℕ → ℕ → ℕ → ℕ → ℕ → ℕ → Bool
covers x y w h = is_in (record { x = x; y = y; w = w; h = h })

-- a picture with one colour in that area, and as it was elsewhere
abbrev pub filled : ℕ → ℕ → ℕ → ℕ → Color → Picture → Picture
filled x y w h color before column row = if covers x y w h column row then color else before column row

-- a picture of w by h whose upper left corner is (x, y), over one that was there before
abbrev pub laid_over : ℕ → ℕ → ℕ → ℕ → Picture → Picture → Picture
laid_over x y w h picture before column row = if covers x y w h column row then picture (column - x) (row - y) else before column row

-- two pictures agree at the pixels of a canvas of this size
abbrev pub Agree : ℕ → ℕ → Picture → Picture → Type 0
Agree width height p q = (column row : ℕ) → column < width → row < height → p column row ≡ q column row

abbrev pub black : Color
black = record { r = 0; g = 0; b = 0 }

-- the colour at an index
abbrev pub nth : List Color → ℕ → Color
nth colors i = slice_index_or colors i black

-- the picture that colours by rows are, for rows of w pixels
abbrev pub rows_of : List Color → ℕ → Picture
rows_of colors w column row = nth colors (row * w + column)

-- the colour of the pixel of this index, of pixels one after the other
abbrev pub pixel_in : Format → List ℕ → ℕ → Color
pixel_in f bytes k = pixel_color f (take (pixel_bytes f) (drop (k * pixel_bytes f) bytes))

-- the picture that pixels by rows are, for rows of w pixels
abbrev pub pixel_rows : Format → ℕ → List ℕ → Picture
pixel_rows f w bytes column row = pixel_in f bytes (row * w + column)
