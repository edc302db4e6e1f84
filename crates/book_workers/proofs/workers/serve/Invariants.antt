use Rattle.std.proofs.Common.{◌≡◌}
use Rattle.shared_book.specs.Receipts.{size_of}
use Rattle.book_workers.proofs.workers.serve.Given as goal

abbrev pub invariant-loop : goal.invariant-loop
invariant-loop g l =
    (g.S.ViewerSink.size l.sink ≡ size_of g.M.Mark.head)
    × (l.seat.position ≡ g.S.ViewerSink.position l.sink)
    × (l.seat.fresh ≡ g.S.ViewerSink.fresh l.sink)
    × (goal.iterator-loop g).can_next l.iterator' × (goal.iterator-loop g).is_finite l.iterator'
