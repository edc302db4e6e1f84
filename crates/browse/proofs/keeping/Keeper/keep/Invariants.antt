use Rattle.flusher_core.specs.State.{accepted_count}
use Rattle.browse.proofs.keeping.Keeper.keep.Given as goal

abbrev pub ghosts-show : goal.ghosts-show
ghosts-show g a = record { head = a.opened.value.desk.value.head; is_modelled = ⊥; first = accepted_count a.opened.value.desk.value.state.book; names = a.token }
