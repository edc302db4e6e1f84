use Rattle.recording_name.proofs.AfterCrash.{made_left}
use Rattle.recording_name.proofs.laws.a_recording_in_the_making.Goals as goal

pub returns : goal.returns
returns c = made_left
