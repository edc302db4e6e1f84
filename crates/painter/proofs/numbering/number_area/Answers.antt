use Rattle.std.proofs.Common.{[]}
use Rattle.painter.specs.Numbered.{AreNumbersOf}
use Rattle.painter.proofs.SentRows.{rows_appended}
use Rattle.painter.proofs.SentNumbers.{numbers_join}
use Rattle.painter.proofs.numbering.number_area.Goals as goal

pub loop-row-preserved : goal.loop-row-preserved
loop-row-preserved g c =
    let f = c.args.format.now in
    rows_appended (AreNumbersOf f) (numbers_join f) f (g.R.Rows.shown c.args.rows.now) c.args.area c.loop-row.row c.row.result.now [] c.loop-row.numbers.items c.append_row.new.out.items
    c.row.ensures.colors c.loop-row.invariant c.in_ok-append_row.ensures
