-- Areas of pixels that are kept by rows.
use Rattle.std.specs.Prelude.{◌≡◌, ℕ, ◌+◌, ◌*◌, ◌<◌, ◌≤◌, List, if◌then◌else◌}
use Rattle.pixel_format.specs.Canvas.{Picture}
use Rattle.terms.specs.declared.area.Area.{Area}
use Rattle.terms.specs.Area.{is_in}
use Rattle.painter.specs.declared.pixel.Pixel.{Pixel}
use Rattle.painter.specs.Pixels.{color_in}

-- All pixels of the area are among so many pixels, in rows of this width.
pub record LiesIn (width count : ℕ) (area : Area) : Type 0 where
  pub columns : area.x + area.w ≤ width
  pub rows : (area.y + area.h) * width ≤ count

-- The pixels of the area have the picture's colours, and the others those that they had.
abbrev pub IsPainted : ℕ → Area → Picture → List Pixel → List Pixel → Type 0
IsPainted width area picture old new = (x y : ℕ) → x < width → color_in new width x y
    ≡ (if is_in area x y then picture x y else color_in old width x y)
