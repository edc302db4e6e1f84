use Rattle.std.proofs.Common.{◌+◌, ◌≤◌}
use Rattle.std.specs.Prelude.{◌&&◌, IfSome}
use Rattle.terms.specs.Area.{is_in, IsSmallestOf}
use Rattle.pixel_sets.specs.Pixels.{is_marked}
use Rattle.pixel_sets.proofs.Rows.{rows}
use Rattle.pixel_sets.proofs.tiles.smallest_in.Given as goal

-- the rows so far are looked at
abbrev pub invariant-loop-row : goal.invariant-loop-row
invariant-loop-row l = record {
  is : IsSmallestOf (λ x y. is_in (rows l.part l.row) x y && is_marked l.columns l.words x y) l.found;
  within : IfSome l.found (λ a. a.x + a.w ≤ l.part.x + l.part.w);
  above : IfSome l.found (λ a. a.y + a.h ≤ l.part.y + l.row);
}
