use Rattle.std.proofs.Common.{arith}
use Rattle.painter.proofs.Kept.{one_more_down}
use Rattle.painter.proofs.shared_rows.move_down.Goals as goal

pub loop-k-preserved : goal.loop-k-preserved
loop-k-preserved c =
    let l = c.loop-k in
    let some = l.invariant.some in
    let one = rw (c.from-from.ensures, c.from-to.ensures) at c.keep_as.ensures in
    record {
      some = omega (arith, some);
      moved = one_more_down c.args.from c.args.to l.k c.args.count c.args.kept.now l.kept c.keep_as.new.kept c.requires c.loop-k-test.true some l.invariant.moved one;
    }
