use Rattle.std.proofs.Common.{◌≡◌, ℕ, ◌<◌, cond}
use Rattle.terms.specs.Area.{is_in}
use Rattle.painter.specs.Pixels.{color_in, color_of}
use Rattle.painter.proofs.rectangle.fill_rows.Given as goal

-- the rows so far have the colour
abbrev pub invariant-loop-row : goal.invariant-loop-row
invariant-loop-row l =
    (x y : ℕ) → x < l.width → color_in l.pixels l.width x y
    ≡ cond (is_in (record l.fn.area { h = l.row }) x y) (color_of l.pixel) (color_in l.initial.pixels l.width x y)
