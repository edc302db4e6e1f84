use Rattle.std.proofs.Common.{arith}
use Rattle.std.proofs.lemmas.Grind.{common_steps}
use Rattle.rect_codec.specs.Written.{ArePixels}
use Rattle.rect_codec.proofs.PixelsJoined.{are_joined}
use Rattle.painter.proofs.SentRows.{rows_appended}
use Rattle.painter.proofs.sending.append_rows.Goals as goal

pub loop-row-preserved : goal.loop-row-preserved
loop-row-preserved g c =
    let f = c.args.format.now in
    rows_appended (ArePixels f) (are_joined f) f (g.R.Rows.shown c.args.rows.now) c.args.area c.loop-row.row c.row.result.now c.args.out.now.items c.loop-row.out.items c.append_row.new.out.items
    c.row.ensures.colors c.loop-row.invariant c.in_ok-append_row.ensures.ok

pub returns-in_err-append_row-clause-grows : goal.returns-in_err-append_row-clause-grows
returns-in_err-append_row-clause-grows g c = grind (arith, common_steps)
