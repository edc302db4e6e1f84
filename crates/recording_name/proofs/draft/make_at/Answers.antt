use Rattle.recording_name.specs.KeptLaws.{GoesOn-keeps}
use Rattle.recording_name.proofs.Calls.{keeps_make, new_made}
use Rattle.recording_name.proofs.draft.make_at.Goals as goal

pub returns-in_err-make-clause-elsewhere : goal.returns-in_err-make-clause-elsewhere
returns-in_err-make-clause-elsewhere g c m name other =
    GoesOn-keeps _ _ _ name (c.remove_left.ensures.elsewhere m name other) (keeps_make _ _ c.args.draft.now name other (c.make.ensures.goes_on m))

pub returns-clause-elsewhere : goal.returns-clause-elsewhere
returns-clause-elsewhere g c m name other =
    GoesOn-keeps _ _ _ name (c.remove_left.ensures.elsewhere m name other) (keeps_make _ _ c.args.draft.now name other (c.make.ensures.goes_on m))

pub returns-clause-made : goal.returns-clause-made
returns-clause-made g c m = new_made _ _ _ _ (c.in_ok-make.ensures.made m)
