use Rattle.flusher_core.specs.State.{accepted_count}
use Rattle.book_tests.proofs.tests.shared.twins.run_twins.Given as goal

abbrev pub ghosts-run_both : goal.ghosts-run_both
ghosts-run_both g a = record { head = a.twin.value.head; is_modelled = Unit {0}; first = accepted_count a.twin.value.state.book; names = a.token }
