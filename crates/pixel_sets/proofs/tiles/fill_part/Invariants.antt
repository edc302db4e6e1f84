use Rattle.std.proofs.Common.{◌≡◌, ℕ, ◌*◌, ◌<◌, cond}
use Rattle.terms.specs.Area.{is_in}
use Rattle.pixel_sets.specs.Pixels.{is_marked}
use Rattle.pixel_sets.proofs.Rows.{rows}
use Rattle.pixel_sets.proofs.tiles.fill_part.Given as goal

-- the rows so far are filled
abbrev pub invariant-loop-row : goal.invariant-loop-row
invariant-loop-row l = (x y : ℕ) → x < 16 * l.columns → is_marked l.columns l.words x y
    ≡ cond (is_in (rows l.fn.part l.row) x y) l.value (is_marked l.columns l.initial.words x y)
