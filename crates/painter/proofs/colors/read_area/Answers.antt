use Rattle.std.proofs.Common.{◌≡◌, ◌*◌, ◌<◌, length, ◌∙◌, arith}
use Rattle.std.proofs.lemmas.Grind.{common_steps}
use Rattle.painter.proofs.Rows.{range_len}
use Rattle.painter.proofs.RowsRead.{row_read, rows_more, screen_more}
use Rattle.painter.proofs.colors.read_area.Goals as goal

pub loop-row-preserved : goal.loop-row-preserved
loop-row-preserved g c =
    let area = c.args.area in
    let screen = g.R.Rows.shown c.args.rows.now in
    let row = c.loop-row.row in
    let size : length c.loop-row.colors ≡ area.h * area.w = c.loop-row.auto.colors ∙ c.requires.size in
    let down : row < area.h = rw c.from-row-end.ensures at c.loop-row-test.true in
    let len = rw (c.from-w.ensures) at c.read_row.auto.colors in
    let value = rw (c.from-w.ensures) at c.read_row.ensures.value in
    let each = rw (c.from-w.ensures) at c.read_row.ensures.screen in
    let read = row_read screen c.row.result.now c.loop-row.colors c.read_row.new.colors area row size down c.row.ensures.colors len value each in
    rw c.from-w.ensures
    (record {
      value = rows_more screen c.loop-row.colors c.read_row.new.colors area row _ (range_len (row * area.w) area.w) read c.loop-row.invariant.value;
      screen = screen_more screen c.loop-row.colors c.read_row.new.colors area row _ read c.loop-row.invariant.screen;
    })

pub read_row-requires : goal.read_row-requires
read_row-requires g c = grind (arith, common_steps)
