use Rattle.std.proofs.Common.{arith}
use Rattle.book_tests.proofs.tests.shared.accounts.give.Goals as goal

pub run_host-requires-clause-settled : goal.run_host-requires-clause-settled
run_host-requires-clause-settled g c = λ _. rw (c.requires.nothing.0, c.requires.nothing.1) tt

pub run_host-requires-clause-first : goal.run_host-requires-clause-first
run_host-requires-clause-first g c = λ _. rw c.requires.nothing.1 (omega (arith, c.requires.first))
