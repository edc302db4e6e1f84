-- The faults by the numbers that programs print, from 1 on, and what becomes of those of the layers
-- below.
use Rattle.std.specs.Prelude.{List, [], ◌∷◌}
use Rattle.block_walk.specs.declared.faults.CreateFault.{CreateFault}
use Rattle.block_walk.specs.declared.faults.CreateFault.TheVariants as create
use Rattle.block_walk.specs.declared.faults.ReadFault.{ReadFault}
use Rattle.block_walk.specs.declared.faults.ReadFault.TheVariants as read
use Rattle.salvage.specs.declared.fault.SalvageFault.{SalvageFault}
use Rattle.salvage.specs.declared.fault.SalvageFault.TheVariants.{NotEmpty, Source, Target, NoMemory, Full}

abbrev pub salvage_faults : List SalvageFault
salvage_faults = NotEmpty ∷ Source ∷ Target ∷ NoMemory ∷ Full ∷ []

abbrev pub fault_of_read : ReadFault → SalvageFault
fault_of_read read.NoMemory = NoMemory
fault_of_read read.Device = Source

abbrev pub fault_of_draft : CreateFault → SalvageFault
fault_of_draft create.NotEmpty = NotEmpty
fault_of_draft create.Device = Target
fault_of_draft create.NoMemory = NoMemory
