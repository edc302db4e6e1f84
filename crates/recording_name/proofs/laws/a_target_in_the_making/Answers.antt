use Rattle.recording_name.proofs.AfterCrash.{target_left}
use Rattle.recording_name.proofs.laws.a_target_in_the_making.Goals as goal

pub returns : goal.returns
returns c = target_left
