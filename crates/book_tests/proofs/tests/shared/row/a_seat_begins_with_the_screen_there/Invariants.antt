use Rattle.flusher_core.specs.State.{accepted_count}
use Rattle.book_tests.proofs.tests.shared.row.a_seat_begins_with_the_screen_there.Given as goal

abbrev pub ghosts-begin_all : goal.ghosts-begin_all
ghosts-begin_all g a = record { head = a.desk.value.head; is_modelled = Unit {0}; first = accepted_count a.desk.value.state.book; names = a.token }
