use Rattle.std.proofs.Common.{◌≡◌}
use Rattle.book_workers.proofs.workers.commit.Given as goal

abbrev pub invariant-loop : goal.invariant-loop
invariant-loop g l =
    (g.S.ReceiptSink.is_modelled → g.S.ReceiptSink.committed l.sink ≡ l.pen)
    × (goal.iterator-loop g).can_next l.iterator' × (goal.iterator-loop g).is_finite l.iterator'
