use Rattle.std.proofs.Common.{arith}
use Rattle.std.proofs.lemmas.Grind.{common_steps}
use Rattle.terms.proofs.Progress.{begins, goes_on}
use Rattle.rect_codec.proofs.PixelsJoined.{no_pixels}
use Rattle.painter.proofs.SentRows.{AreRowPixels, row_pixels_join}
use Rattle.painter.proofs.sending.append_row.Goals as goal

pub loop-rest-init : goal.loop-rest-init
loop-rest-init c = begins (AreRowPixels c.args.format.now) (no_pixels c.args.format.now) c.args.row.now c.args.out.now.items

pub loop-rest-preserved : goal.loop-rest-preserved
loop-rest-preserved c =
    goes_on (AreRowPixels c.args.format.now) (row_pixels_join c.args.format.now) c.args.row.now c.loop-rest.rest.now c.split_at.result.0.now c.split_at.result.1.now
    c.args.out.now.items c.loop-rest.out.items c.append_some.new.out.items c.split_at.ensures.by_index.0 c.loop-rest.invariant c.in_ok-append_some.ensures.ok

pub returns-in_err-append_some-clause-grows : goal.returns-in_err-append_some-clause-grows
returns-in_err-append_some-clause-grows c = grind (arith, common_steps)

pub returns-clause-ok : goal.returns-clause-ok
returns-clause-ok c = grind (arith, common_steps)
