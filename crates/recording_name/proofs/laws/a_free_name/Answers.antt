use Rattle.recording_name.proofs.AfterCrash.{free_left}
use Rattle.recording_name.proofs.laws.a_free_name.Goals as goal

pub returns : goal.returns
returns c = free_left
