use Rattle.std.proofs.Common.{◌≡◌, ℕ, ◌<◌, cond}
use Rattle.pixel_format.specs.Format.{host_format}
use Rattle.terms.specs.Area.{is_in}
use Rattle.rect_codec.specs.Picture.{raw_picture}
use Rattle.painter.specs.Pixels.{color_in}
use Rattle.painter.proofs.rectangle.paint_raw.Given as goal

-- the rows so far are painted as a rectangle of that height would be
abbrev pub invariant-loop-row : goal.invariant-loop-row
invariant-loop-row l =
    (x y : ℕ) → x < l.width → color_in l.pixels l.width x y
    ≡ cond (is_in (record l.fn.area { h = l.row }) x y) (raw_picture host_format l.fn.area l.bytes x y) (color_in l.initial.pixels l.width x y)
