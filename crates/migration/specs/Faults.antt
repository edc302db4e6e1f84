-- The faults by the numbers that programs print, from 1 on, and what becomes of those of the layers
-- below.
use Rattle.std.specs.Prelude.{List, [], ◌∷◌}
use Rattle.block_walk.specs.declared.faults.CreateFault.{CreateFault}
use Rattle.block_walk.specs.declared.faults.CreateFault.TheVariants as create
use Rattle.block_walk.specs.declared.faults.OpenFault.TheVariants as journal
use Rattle.block_walk.specs.declared.faults.ReadFault.{ReadFault}
use Rattle.block_walk.specs.declared.faults.ReadFault.TheVariants as read
use Rattle.key_index.specs.declared.faults.IndexFault.{IndexFault}
use Rattle.key_index.specs.declared.faults.IndexFault.TheVariants as index
use Rattle.migration.specs.declared.fault.MigrateFault.{MigrateFault}
use Rattle.migration.specs.declared.fault.MigrateFault.TheVariants.{NotEmpty, Source, Target, NoMemory, AlreadyTwo, Full}

abbrev pub migrate_faults : List MigrateFault
migrate_faults = NotEmpty ∷ Source ∷ Target ∷ NoMemory ∷ AlreadyTwo ∷ Full ∷ []

abbrev pub fault_of_read : ReadFault → MigrateFault
fault_of_read read.NoMemory = NoMemory
fault_of_read read.Device = Source

abbrev pub fault_of_draft : CreateFault → MigrateFault
fault_of_draft create.NotEmpty = NotEmpty
fault_of_draft create.Device = Target
fault_of_draft create.NoMemory = NoMemory

abbrev pub fault_of_judging : IndexFault → MigrateFault
fault_of_judging (index.BadEntry block) = Source
fault_of_judging (index.BadMessage block) = Source
fault_of_judging (index.KeyDiffers block) = Source
fault_of_judging (index.TimesFall block) = Source
fault_of_judging index.NoMemory = NoMemory
fault_of_judging (index.Journal journal.NotARecording) = Source
fault_of_judging (index.Journal (journal.Damaged block)) = Source
fault_of_judging (index.Journal journal.Device) = Target
fault_of_judging (index.Journal journal.NoMemory) = NoMemory
fault_of_judging (index.Journal (journal.BadDigest block)) = Source
