use Rattle.recording_name.proofs.Calls.{after_same}
use Rattle.recording_name.proofs.standing.stand_at.Goals as goal

pub returns-in_err-settled-clause-keeps : goal.returns-in_err-settled-clause-keeps
returns-in_err-settled-clause-keeps g c m name =
    after_same _ _ _ name (c.leads_to_nothing.ensures.history m)
    (after_same _ _ _ name (c.open_locked.ensures.history m) (after_same _ _ _ name (c.identify.ensures.history m) (c.settle_for.ensures.keeps m name)))

pub returns-clause-keeps : goal.returns-clause-keeps
returns-clause-keeps g c m name =
    after_same _ _ _ name (c.leads_to_nothing.ensures.history m)
    (after_same _ _ _ name (c.open_locked.ensures.history m) (after_same _ _ _ name (c.identify.ensures.history m) (c.settle_for.ensures.keeps m name)))
