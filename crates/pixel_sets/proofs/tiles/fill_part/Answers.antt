use Rattle.std.proofs.Common.{◌+◌, ◌∙◌, Bool, cond, ap, arith}
use Rattle.terms.specs.Area.{is_in}
use Rattle.pixel_sets.specs.Pixels.{number_at, is_marked}
use Rattle.pixel_sets.proofs.Numbers.{row_between, rows_between}
use Rattle.pixel_sets.proofs.Rows.{rows, row_of, rows_more}
use Rattle.pixel_sets.proofs.PixelSets.{filled_more}
use Rattle.pixel_sets.proofs.tiles.fill_part.Goals as goal

pub returns-then-part-eq-SIDE : goal.returns-then-part-eq-SIDE
returns-then-part-eq-SIDE c = λ x y across.
    let columns = c.args.columns in
    let part = c.args.part in
    let told = rw (c.number_at-start.ensures, c.from.ensures) at (c.fill.ensures (number_at columns x y)) in
    told ∙ ap (λ (b : Bool). cond b c.args.value (is_marked columns c.args.words.now x y)) (rows_between columns part x y c.if-part-eq-SIDE.true c.requires.column c.requires.row c.requires.across across)

pub loop-row-preserved : goal.loop-row-preserved
loop-row-preserved c = λ x y across.
    let columns = c.args.columns in
    let part = c.args.part in
    let row = c.loop-row.row in
    let told = rw (c.number_at-start.ensures, c.from-w.ensures) at (c.fill-in-loop-row.ensures (number_at columns x y)) in
    filled_more (is_in (rows part row) x y) (is_in (row_of part row) x y) (is_in (rows part (row + 1)) x y) c.args.value (is_marked columns c.args.words.now x y) (is_marked columns c.loop-row.words x y) (is_marked columns c.fill-in-loop-row.new.words x y)
    (told ∙ ap (λ (b : Bool). cond b c.args.value (is_marked columns c.loop-row.words x y)) (row_between columns row part x y c.requires.column (omega arith) c.requires.across across))
    (c.loop-row.invariant x y across) (rows_more part row x y)
