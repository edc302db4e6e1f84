use Rattle.flusher_core.specs.State.{accepted_count}
use Rattle.serve.proofs.serving.run.Given as goal

abbrev pub ghosts-serve_opened : goal.ghosts-serve_opened
ghosts-serve_opened g a = record { head = a.opened.value.desk.value.head; is_modelled = ⊥; first = accepted_count a.opened.value.desk.value.state.book; names = a.token }
