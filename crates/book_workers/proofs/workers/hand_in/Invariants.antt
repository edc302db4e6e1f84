use Rattle.std.proofs.Common.{◌≡◌}
use Rattle.shared_book.specs.Receipts.{screen_of}
use Rattle.book_workers.specs.Accounts.{IsSettled, accepted_in}
use Rattle.book_workers.proofs.workers.hand_in.Given as goal

abbrev pub invariant-loop : goal.invariant-loop
invariant-loop g l =
    (g.S.HostSource.screen l.source ≡ screen_of g.M.Mark.head)
    × (g.S.HostSource.is_modelled → IsSettled (g.S.HostSource.account l.source))
    × (g.S.HostSource.is_modelled → accepted_in (g.S.HostSource.account l.source) ≡ l.pen)
    × (goal.iterator-loop g).can_next l.iterator' × (goal.iterator-loop g).is_finite l.iterator'
