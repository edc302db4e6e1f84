use Rattle.recording_name.proofs.AfterCrash.{settled_left}
use Rattle.recording_name.proofs.laws.a_settled_recording.Goals as goal

pub returns : goal.returns
returns c = settled_left
