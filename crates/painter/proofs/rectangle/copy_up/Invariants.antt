use Rattle.std.proofs.Common.{◌≡◌, ℕ, ◌<◌, cond}
use Rattle.terms.specs.Area.{is_in}
use Rattle.rect_codec.specs.Picture.{copied_picture}
use Rattle.painter.specs.Pixels.{color_in}
use Rattle.painter.proofs.rectangle.copy_up.Given as goal

-- the rows so far are copied
abbrev pub invariant-loop-row : goal.invariant-loop-row
invariant-loop-row l =
    (x y : ℕ) → x < l.width → color_in l.pixels l.width x y
    ≡ cond (is_in (record l.fn.area { h = l.row }) x y) (copied_picture l.fn.source l.fn.area (color_in l.initial.pixels l.width) x y) (color_in l.initial.pixels l.width x y)
