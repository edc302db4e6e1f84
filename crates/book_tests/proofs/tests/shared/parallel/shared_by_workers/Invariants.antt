use Rattle.flusher_core.specs.State.{accepted_count}
use Rattle.book_tests.proofs.tests.shared.parallel.shared_by_workers.Given as goal

abbrev pub ghosts-share : goal.ghosts-share
ghosts-share g a = record { head = a.desk.value.head; is_modelled = Unit {0}; first = accepted_count a.desk.value.state.book; names = a.token }
