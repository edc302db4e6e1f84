use Rattle.std.proofs.Common.{◌≡◌, ℕ, ◌+◌, ◌*◌, ◌≤◌, Bool, arith}
use Rattle.std.specs.Prelude.{◌&&◌, Some}
use Rattle.terms.specs.declared.area.Area.{Area}
use Rattle.terms.specs.Area.{is_in}
use Rattle.pixel_sets.specs.Pixels.{number_at, is_marked}
use Rattle.pixel_sets.proofs.Rows.{rows, row_of}
use Rattle.pixel_sets.proofs.PixelSets.{row_is, none_in_row, none_added, rows_looked, row_right, if_some}
use Rattle.pixel_sets.proofs.tiles.smallest_in.Goals as goal
use Rattle.pixel_sets.proofs.tiles.smallest_in.Goals.{in-Some, in_default}

pub loop-row-preserved : goal.loop-row-preserved
loop-row-preserved c =
    let words = c.args.words.now in
    let columns = c.args.columns in
    let part = c.args.part in
    let row = c.loop-row.row in
    let old : ℕ → ℕ → Bool = λ x y. is_in (rows part row) x y && is_marked columns words x y in
    let new : ℕ → ℕ → Bool = λ x y. is_in (row_of part row) x y && is_marked columns words x y in
    let from = c.number_at-start.result + c.from.result * 16 in
    let from_is : from ≡ number_at columns part.x part.y + row * 16 = omega (arith, c.number_at-start.ensures, c.from.ensures) in
    let ends = rw c.from-w.ensures at c.first_and_last.ensures in
    elim c.match-first_and_last.branch [
      | in-Some w ↦ (let here = row_is words columns part row from w.in-Some.ends c.requires (omega arith) from_is (rw w.in-Some.is at ends) in
          let told = w.with_row.ensures in
          let end = told.end in
          rw w.found-is (record {
            is = rows_looked (is_marked columns words) part row (Some w.with_row.result) (told.smallest old new c.loop-row.invariant.is here);
            within = told.within (part.x + part.w) (row_right (is_marked columns words) part row _ _ _ here) c.loop-row.invariant.within;
            above = omega (arith, end);
          }))
      | in_default w ↦ (let none = none_in_row words columns part row from c.requires (omega arith) from_is (rw w.in_default.is at ends) in
          rw w.found-is (record {
            is = rows_looked (is_marked columns words) part row c.loop-row.found (none_added old new none c.loop-row.found c.loop-row.invariant.is);
            within = c.loop-row.invariant.within;
            above = if_some (λ (a : Area). a.y + a.h ≤ part.y + row) (λ (a : Area). a.y + a.h ≤ part.y + (row + 1)) (λ a le. omega arith) c.loop-row.found c.loop-row.invariant.above;
          }))
    ]

pub returns : goal.returns
returns c =
    let all : c.loop-row.row ≡ c.args.part.h = omega arith in
    rw all at c.loop-row.invariant.is
