use Rattle.std.proofs.Common.{◌≡◌, ℕ, ◌<◌, ◌≤◌, cond, length}
use Rattle.terms.specs.Area.{is_in}
use Rattle.rect_codec.specs.Picture.{copied_picture}
use Rattle.painter.specs.Pixels.{color_in}
use Rattle.painter.proofs.Rows.{rows_from}
use Rattle.painter.proofs.rectangle.copy_down.Given as goal

-- the rows from this one on are copied
abbrev pub invariant-loop-row : goal.invariant-loop-row
invariant-loop-row l = record {
  some : l.row ≤ l.fn.area.h;
  len : length l.pixels ≡ length l.initial.pixels;
  copied : (x y : ℕ) → x < l.width → color_in l.pixels l.width x y
      ≡ cond (is_in (rows_from l.fn.area l.row) x y) (copied_picture l.fn.source l.fn.area (color_in l.initial.pixels l.width) x y) (color_in l.initial.pixels l.width x y);
}

abbrev pub decreases-loop-row : goal.decreases-loop-row
decreases-loop-row l = l.row
