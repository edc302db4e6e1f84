use Rattle.std.proofs.Common.{arith}
use Rattle.std.proofs.lemmas.Grind.{common_steps}
use Rattle.terms.proofs.Progress.{begins, goes_on}
use Rattle.painter.proofs.SentNumbers.{AreRowNumbers, no_numbers, row_numbers_join}
use Rattle.painter.proofs.numbering.append_row.Goals as goal

pub loop-rest-init : goal.loop-rest-init
loop-rest-init c = begins (AreRowNumbers c.args.format.now) (no_numbers c.args.format.now) c.args.row.now c.args.out.now.items

pub loop-rest-preserved : goal.loop-rest-preserved
loop-rest-preserved c =
    goes_on (AreRowNumbers c.args.format.now) (row_numbers_join c.args.format.now) c.args.row.now c.loop-rest.rest.now c.split_at.result.0.now c.split_at.result.1.now
    c.args.out.now.items c.loop-rest.out.items c.append_some.new.out.items c.split_at.ensures.by_index.0 c.loop-rest.invariant c.in_ok-append_some.ensures

pub returns : goal.returns
returns c = grind (arith, common_steps)
