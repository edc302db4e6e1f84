use Rattle.recording_name.proofs.AfterCrash.{later_left}
use Rattle.recording_name.proofs.laws.a_settled_recording_that_grows.Goals as goal

pub returns : goal.returns
returns c = later_left
