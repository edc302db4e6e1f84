use Rattle.recording_name.proofs.Calls.{new_made}
use Rattle.recording_name.proofs.target.make_new.Goals as goal

pub returns-in_ok-locked-in-Ok-clause-made : goal.returns-in_ok-locked-in-Ok-clause-made
returns-in_ok-locked-in-Ok-clause-made g c m =
    rw (c.in_ok-locked-in-Ok.ensures.locked m, c.locked.ensures.history m) (new_made _ _ _ _ (c.in-Ok.ensures.made m))
