use Rattle.std.proofs.Common.{List, subst}
use Rattle.recording_name.specs.Memory.{state_of, IsBelow}
use Rattle.recording_name.specs.declared.memory_folder.Event.{Event}
use Rattle.recording_name.proofs.memory_folder.MemoryFolder.next_number.Goals as goal

pub returns-in-Some : goal.returns-in-Some
returns-in-Some c = rw (← c.self.view_is) (subst (λ (events : List Event). IsBelow c.in-Some.number (state_of events)) c.deref.ensures.value c.in-Some.ensures)
