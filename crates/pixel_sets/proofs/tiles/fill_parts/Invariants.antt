use Rattle.std.proofs.Common.{◌≡◌, ℕ, ◌*◌, ◌/◌, ◌<◌, cond, nat_eq}
use Rattle.std.specs.Prelude.{◌&&◌}
use Rattle.terms.specs.Area.{is_in}
use Rattle.pixel_sets.specs.Bits.{is_between}
use Rattle.pixel_sets.specs.Pixels.{is_marked, IsSummary}
use Rattle.pixel_sets.proofs.tiles.fill_parts.Given as goal

-- the tiles so far are filled
abbrev pub invariant-loop-column : goal.invariant-loop-column
invariant-loop-column l = record {
  filled : (x y : ℕ) → x < 16 * l.columns → is_marked l.columns l.words x y
      ≡ cond (is_in l.area x y && (nat_eq (y / 16) l.fn.run.row && is_between l.fn.run.from l.column (x / 16))) l.value (is_marked l.columns l.initial.words x y);
  summary : IsSummary l.columns l.initial.words l.initial.summary → IsSummary l.columns l.words l.summary;
}
