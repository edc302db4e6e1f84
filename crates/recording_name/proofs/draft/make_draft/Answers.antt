use Rattle.recording_name.specs.KeptLaws.{GoesOn-keeps}
use Rattle.recording_name.proofs.Calls.{keeps_unchanged, keeps_remove}
use Rattle.recording_name.proofs.draft.make_draft.Goals as goal

pub returns-in_err-file-clause-elsewhere : goal.returns-in_err-file-clause-elsewhere
returns-in_err-file-clause-elsewhere g c m name other =
    GoesOn-keeps _ _ _ name (c.make_at.ensures.elsewhere m name other) (keeps_unchanged _ _ name (c.claim.ensures.history m))

pub returns-in_err-is_free-clause-elsewhere : goal.returns-in_err-is_free-clause-elsewhere
returns-in_err-is_free-clause-elsewhere g c m name other =
    GoesOn-keeps _ _ _ name (GoesOn-keeps _ _ _ name (c.make_at.ensures.elsewhere m name other) (keeps_unchanged _ _ name (c.claim.ensures.history m)))
    (keeps_unchanged _ _ name (c.is_free.ensures.history m))

pub returns-then-branch-clause-elsewhere : goal.returns-then-branch-clause-elsewhere
returns-then-branch-clause-elsewhere g c m name other =
    GoesOn-keeps _ _ _ name (GoesOn-keeps _ _ _ name (c.make_at.ensures.elsewhere m name other) (keeps_unchanged _ _ name (c.claim.ensures.history m)))
    (keeps_unchanged _ _ name (c.is_free.ensures.history m))

pub returns-in_err-remove-clause-elsewhere : goal.returns-in_err-remove-clause-elsewhere
returns-in_err-remove-clause-elsewhere g c m name other =
    GoesOn-keeps _ _ _ name
    (GoesOn-keeps _ _ _ name (GoesOn-keeps _ _ _ name (c.make_at.ensures.elsewhere m name other) (keeps_unchanged _ _ name (c.claim.ensures.history m))) (keeps_unchanged _ _ name (c.is_free.ensures.history m)))
    (keeps_remove _ _ c.args.draft.now name other (c.remove.ensures.goes_on m))

pub returns-clause-elsewhere : goal.returns-clause-elsewhere
returns-clause-elsewhere g c m name other =
    GoesOn-keeps _ _ _ name
    (GoesOn-keeps _ _ _ name (GoesOn-keeps _ _ _ name (c.make_at.ensures.elsewhere m name other) (keeps_unchanged _ _ name (c.claim.ensures.history m))) (keeps_unchanged _ _ name (c.is_free.ensures.history m)))
    (keeps_remove _ _ c.args.draft.now name other (c.remove.ensures.goes_on m))
