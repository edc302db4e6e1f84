use Rattle.recording_name.specs.FolderHistory.{present}
use Rattle.recording_name.specs.KeptLaws.{GoesOn-keeps}
use Rattle.recording_name.proofs.Calls.{on_ok, keeps_file_sync, keeps_folder_sync, HasOnly-after}
use Rattle.recording_name.proofs.settling.sync_both.Goals as goal

pub returns-clause-keeps : goal.returns-clause-keeps
returns-clause-keeps g c m name =
    GoesOn-keeps _ _ _ name
    (keeps_file_sync _ _ _ name (g.met.S.SystemFolder.agrees c.args.folder.now m) (c.sync_file.ensures.goes_on m))
    (keeps_folder_sync _ _ name (g.met.S.SystemFolder.agrees c.sync_file.new.self m) (c.sync_folder.ensures.goes_on m))

pub returns-clause-whole : goal.returns-clause-whole
returns-clause-whole g c m =
    on_ok c.sync_folder.result (λ synced. HasOnly-after (present (g.S.SystemFolder.history c.args.folder.now)) (present (g.S.SystemFolder.history c.sync_file.new.self)) (present (g.S.SystemFolder.history c.sync_folder.new.self)) (g.S.SystemFolder.locked c.args.file.now) (c.in_ok-sync_file.ensures.synced m) (synced.files (g.S.SystemFolder.locked c.args.file.now)))
    (c.sync_folder.ensures.synced m)
