-- The picture of an RRE rectangle (RFC 6143, section 7.7.3). Pixels count from the rectangle's
-- corner.
use Rattle.std.specs.Prelude.{ℕ, ◌-◌, Bool, List, [], ◌∷◌, reverse, if◌then◌else◌}
use Rattle.pixel_format.specs.declared.Color.{Color}
use Rattle.pixel_format.specs.Canvas.{Picture, covers}
use Rattle.rre.specs.declared.data.Subrectangle.{Subrectangle}
use Rattle.rre.specs.Grammar.{Content}

-- the subrectangle covers the pixel
abbrev pub is_covered : Subrectangle → ℕ → ℕ → Bool
is_covered s column row = covers s.x s.y s.w s.h column row

-- the colour of the first of these subrectangles that covers the pixel, else the background
abbrev pub first_covering : Color → List Subrectangle → Picture
first_covering background [] column row = background
first_covering background (s ∷ others) column row =
    if is_covered s column row then s.color else first_covering background others column row

-- the colour of the last listed subrectangle that covers the pixel, else the background
abbrev pub picture_of : Content → Picture
picture_of content column row = first_covering content.background (reverse content.subrectangles) column row

-- the picture of a rectangle whose upper left corner is (x, y), over one that was there before
abbrev pub painted_over : ℕ → ℕ → ℕ → ℕ → Content → Picture → Picture
painted_over x y w h content before column row =
    if covers x y w h column row then picture_of content (column - x) (row - y) else before column row
