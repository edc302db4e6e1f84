use Rattle.recording_name.specs.Memory.{history_of}
use Rattle.recording_name.proofs.memory_folder.MemoryFolder.left_at.Goals as goal

pub returns : goal.returns
unfolding history_of
returns c = rw (← c.self.view_is, ← c.deref.ensures.value) c.left_after.ensures
