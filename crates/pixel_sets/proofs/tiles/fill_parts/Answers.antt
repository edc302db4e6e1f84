use Rattle.std.proofs.Common.{ℕ, ◌+◌, ◌/◌, ◌∙◌, Bool, cond, nat_eq, sym, ap}
use Rattle.std.specs.Prelude.{◌&&◌}
use Rattle.terms.specs.Area.{is_in}
use Rattle.pixel_sets.specs.Bits.{is_between}
use Rattle.pixel_sets.specs.Pixels.{is_marked, HasTiles}
use Rattle.pixel_sets.proofs.PixelSets.{as_long, part_is, part_tile, tiles_more, filled_more, none_there, square}
use Rattle.pixel_sets.proofs.tiles.fill_parts.Goals as goal
use Rattle.pixel_sets.proofs.tiles.fill_parts.Goals.{in-Some, in_default}

pub fill_tile-requires-clause-part : goal.fill_tile-requires-clause-part
fill_tile-requires-clause-part c =
    let has : HasTiles c.args.columns c.args.area c.loop-column.words c.loop-column.summary = as_long c.args.columns c.args.area c.args.words.now c.args.summary.now c.loop-column.words c.loop-column.summary c.requires.area c.loop-column.auto.words c.loop-column.auto.summary in
    part_is c.args.columns c.loop-column.column c.args.run.row c.args.area c.in-Some.part c.loop-column.words c.loop-column.summary has c.requires.row (rw c.tile_area.ensures at c.in-Some.ensures)

pub fill_tile-requires-clause-room : goal.fill_tile-requires-clause-room
fill_tile-requires-clause-room c =
    let has : HasTiles c.args.columns c.args.area c.loop-column.words c.loop-column.summary = as_long c.args.columns c.args.area c.args.words.now c.args.summary.now c.loop-column.words c.loop-column.summary c.requires.area c.loop-column.auto.words c.loop-column.auto.summary in
    part_tile c.args.columns c.loop-column.column c.args.run.row c.args.area c.in-Some.part c.loop-column.words c.loop-column.summary has c.requires.row (rw c.tile_area.ensures at c.in-Some.ensures)

pub loop-column-preserved : goal.loop-column-preserved
loop-column-preserved c =
    let columns = c.args.columns in
    let area = c.args.area in
    let row = c.args.run.row in
    let column = c.loop-column.column in
    let from = c.args.run.from in
    let value = c.args.value in
    let before : ℕ → ℕ → Bool = λ x y. is_marked columns c.args.words.now x y in
    let old : ℕ → ℕ → Bool = λ x y. is_marked columns c.loop-column.words x y in
    let common = rw c.tile_area.ensures at c.common.ensures in
    elim c.match-common.branch [
      | in-Some w ↦
          (let just = rw w.in-Some.is at common in
          rw (w.words-is, w.summary-is) (record {
            filled = λ x y across.
                filled_more (is_in area x y && (nat_eq (y / 16) row && is_between from column (x / 16))) (is_in area x y && is_in (square column row) x y)
                (is_in area x y && (nat_eq (y / 16) row && is_between from (column + 1) (x / 16))) value (before x y) (old x y) (is_marked columns w.fill_tile.new.words x y)
                (w.fill_tile.ensures.filled x y across ∙ ap (λ (b : Bool). cond b value (old x y)) (just.just x y)) (c.loop-column.invariant.filled x y across) (tiles_more area from column row x y c.loop-column.auto.column);
            summary = λ are. w.fill_tile.ensures.summary (c.loop-column.invariant.summary are);
          }))
      | in_default w ↦
          (let none = rw w.in_default.is at common in
          rw (w.words-is, w.summary-is) (record {
            filled = λ x y across.
                filled_more (is_in area x y && (nat_eq (y / 16) row && is_between from column (x / 16))) (is_in area x y && is_in (square column row) x y)
                (is_in area x y && (nat_eq (y / 16) row && is_between from (column + 1) (x / 16))) value (before x y) (old x y) (old x y)
                (sym (ap (λ (b : Bool). cond b value (old x y)) (none_there area column row x y none))) (c.loop-column.invariant.filled x y across) (tiles_more area from column row x y c.loop-column.auto.column);
            summary = c.loop-column.invariant.summary;
          }))
    ]
