use Rattle.std.proofs.Common.{◌≡◌, ℕ, ◌*◌, ◌/◌, ◌<◌, cond, nat_lt}
use Rattle.std.specs.Prelude.{◌&&◌}
use Rattle.terms.specs.Area.{is_in}
use Rattle.pixel_sets.specs.Pixels.{is_marked, IsSummary}
use Rattle.pixel_sets.proofs.tiles.fill_area.Given as goal

-- the rows of tiles so far are filled
abbrev pub invariant-loop-row : goal.invariant-loop-row
invariant-loop-row l = record {
  filled : (x y : ℕ) → x < 16 * l.columns → is_marked l.columns l.words x y
      ≡ cond (is_in l.area x y && nat_lt (y / 16) l.row) l.value (is_marked l.columns l.initial.words x y);
  summary : IsSummary l.columns l.initial.words l.initial.summary → IsSummary l.columns l.words l.summary;
}
