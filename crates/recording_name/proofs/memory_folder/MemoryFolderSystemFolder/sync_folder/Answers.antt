use Rattle.recording_name.specs.Folder.{IsFolderSynced}
use Rattle.recording_name.specs.MemoryLaws.{IsFolderSynced-after}
use Rattle.recording_name.specs.declared.memory_folder.Event.TheVariants.{FolderSynced}
use Rattle.recording_name.proofs.Noted.{on_noted_after, goes_noted_after}
use Rattle.recording_name.proofs.memory_folder.MemoryFolderSystemFolder.sync_folder.Goals as goal

pub returns-clause-synced : goal.returns-clause-synced
returns-clause-synced c _ =
    on_noted_after c.note.result c.args.self.now c.count.new.self c.note.new.self FolderSynced IsFolderSynced c.count.ensures (IsFolderSynced-after _) c.note.ensures.ok

pub returns-clause-goes_on : goal.returns-clause-goes_on
returns-clause-goes_on c _ =
    goes_noted_after c.note.result c.args.self.now c.count.new.self c.note.new.self FolderSynced IsFolderSynced c.count.ensures (IsFolderSynced-after _) c.note.ensures.ok c.note.ensures.err
