use Rattle.std.proofs.Common.{◌∙◌, sym}
use Rattle.recording_name.specs.KeptLaws.{GoesOn-keeps, names-renamed}
use Rattle.recording_name.proofs.Calls.{keeps_file_sync, keeps_synced_rename, whole_kept, whole_synced_rename, whole_then}
use Rattle.recording_name.proofs.publishing.publish.Goals as goal

pub returns-in-Err-clause-any_moment : goal.returns-in-Err-clause-any_moment
returns-in-Err-clause-any_moment g c m =
    whole_then _ _ _ _ _ _ (whole_kept _ _ _ _ _ (keeps_file_sync _ _ _ c.args.path.now (g.met.S.SystemFolder.agrees c.args.folder.now m) (c.sync_file.ensures.goes_on m)))
    (c.give_up.ensures.elsewhere m c.args.path.now (λ same. c.requires.differ (sym same)))

pub returns-in-Err-clause-elsewhere : goal.returns-in-Err-clause-elsewhere
returns-in-Err-clause-elsewhere g c m name other another =
    GoesOn-keeps _ _ _ name (keeps_file_sync _ _ _ name (g.met.S.SystemFolder.agrees c.args.folder.now m) (c.sync_file.ensures.goes_on m)) (c.give_up.ensures.elsewhere m name other)

pub returns-in-Err-rename-clause-any_moment : goal.returns-in-Err-rename-clause-any_moment
returns-in-Err-rename-clause-any_moment g c m =
    whole_then _ _ _ _ _ _ (whole_synced_rename _ _ _ _ c.args.draft.now c.args.path.now (g.met.S.SystemFolder.agrees c.args.folder.now m) (c.requires.drafted m) (c.sync_file.ensures.goes_on m) (c.in_default.ensures.synced m) (c.rename.ensures.goes_on m))
    (c.give_up-in-Err-rename.ensures.elsewhere m c.args.path.now (λ same. c.requires.differ (sym same)))

pub returns-in-Err-rename-clause-elsewhere : goal.returns-in-Err-rename-clause-elsewhere
returns-in-Err-rename-clause-elsewhere g c m name other another =
    GoesOn-keeps _ _ _ name (keeps_synced_rename _ _ _ _ c.args.draft.now c.args.path.now name other another (g.met.S.SystemFolder.agrees c.args.folder.now m) (c.sync_file.ensures.goes_on m) (c.rename.ensures.goes_on m))
    (c.give_up-in-Err-rename.ensures.elsewhere m name other)

pub returns-in-Ok-clause-settled : goal.returns-in-Ok-clause-settled
returns-in-Ok-clause-settled g c m =
    c.in-Ok.ensures.settled m c.args.path.now
    (names-renamed _ _ c.args.draft.now c.args.path.now _ ((c.in_default.ensures.synced m).names c.args.draft.now ∙ c.requires.drafted m) (c.in_default-rename.ensures.renamed m))

pub returns-in-Ok-clause-any_moment : goal.returns-in-Ok-clause-any_moment
returns-in-Ok-clause-any_moment g c m =
    whole_then _ _ _ _ _ _ (whole_synced_rename _ _ _ _ c.args.draft.now c.args.path.now (g.met.S.SystemFolder.agrees c.args.folder.now m) (c.requires.drafted m) (c.sync_file.ensures.goes_on m) (c.in_default.ensures.synced m) (c.rename.ensures.goes_on m))
    (c.sync_both.ensures.keeps m c.args.path.now)

pub returns-in-Ok-clause-elsewhere : goal.returns-in-Ok-clause-elsewhere
returns-in-Ok-clause-elsewhere g c m name other another =
    GoesOn-keeps _ _ _ name (keeps_synced_rename _ _ _ _ c.args.draft.now c.args.path.now name other another (g.met.S.SystemFolder.agrees c.args.folder.now m) (c.sync_file.ensures.goes_on m) (c.rename.ensures.goes_on m))
    (c.sync_both.ensures.keeps m name)

pub returns-in-Err-sync_both-clause-any_moment : goal.returns-in-Err-sync_both-clause-any_moment
returns-in-Err-sync_both-clause-any_moment g c m =
    whole_then _ _ _ _ _ _ (whole_synced_rename _ _ _ _ c.args.draft.now c.args.path.now (g.met.S.SystemFolder.agrees c.args.folder.now m) (c.requires.drafted m) (c.sync_file.ensures.goes_on m) (c.in_default.ensures.synced m) (c.rename.ensures.goes_on m))
    (c.sync_both.ensures.keeps m c.args.path.now)

pub returns-in-Err-sync_both-clause-elsewhere : goal.returns-in-Err-sync_both-clause-elsewhere
returns-in-Err-sync_both-clause-elsewhere g c m name other another =
    GoesOn-keeps _ _ _ name (keeps_synced_rename _ _ _ _ c.args.draft.now c.args.path.now name other another (g.met.S.SystemFolder.agrees c.args.folder.now m) (c.sync_file.ensures.goes_on m) (c.rename.ensures.goes_on m))
    (c.sync_both.ensures.keeps m name)
