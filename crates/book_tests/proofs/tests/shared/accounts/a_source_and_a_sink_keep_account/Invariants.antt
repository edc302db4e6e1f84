use Rattle.flusher_core.specs.State.{accepted_count}
use Rattle.book_tests.proofs.tests.shared.accounts.a_source_and_a_sink_keep_account.Given as goal

abbrev pub ghosts-keep_accounts : goal.ghosts-keep_accounts
ghosts-keep_accounts g a = record { head = a.desk.value.head; is_modelled = Unit {0}; first = accepted_count a.desk.value.state.book; names = a.token }
