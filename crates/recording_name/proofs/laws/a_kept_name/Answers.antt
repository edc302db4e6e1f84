use Rattle.recording_name.proofs.AfterCrash.{IsAsAt-kept}
use Rattle.recording_name.proofs.laws.a_kept_name.Goals as goal

pub returns : goal.returns
returns c = IsAsAt-kept
