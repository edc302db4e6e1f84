-- The numbers that programs print, and what ends an export that has begun.
use Rattle.std.specs.Prelude.{ℕ, List, [], ◌∷◌}
use Rattle.fbs_export.specs.declared.fault.FbsFault.{FbsFault}
use Rattle.fbs_export.specs.declared.fault.FbsFault.TheVariants as fbs
use Rattle.fbs_export.specs.declared.fault.ExportFault.{ExportFault}
use Rattle.fbs_export.specs.declared.fault.ExportFault.TheVariants as export
use Rattle.fbs_export.specs.declared.fault.Stop.{Stop}
use Rattle.fbs_export.specs.declared.fault.Stop.TheVariants as stops
use Rattle.block_walk.specs.declared.faults.ReadFault.{ReadFault}
use Rattle.block_walk.specs.declared.faults.ReadFault.TheVariants as read

abbrev pub fbs_number : FbsFault → ℕ
fbs_number fbs.NotFbs = 1
fbs_number fbs.Truncated = 2
fbs_number fbs.Version = 3
fbs_number fbs.Security = 4
fbs_number fbs.Format = 5
fbs_number fbs.Size = 6
fbs_number (fbs.Message f) = 7
fbs_number fbs.NoMemory = 8
fbs_number fbs.Read = 9

abbrev pub export_faults : List ExportFault
export_faults = export.NoBlock ∷ export.BadEnd ∷ export.Device ∷ export.NoMemory ∷ export.Write ∷ []

-- the fault that is answered
abbrev pub fault_of : Stop → ExportFault
fault_of stops.Device = export.Device
fault_of stops.NoMemory = export.NoMemory
fault_of stops.Write = export.Write

-- what ends an export, of which a message isn't read
abbrev pub stop_of_read : ReadFault → Stop
stop_of_read read.Device = stops.Device
stop_of_read read.NoMemory = stops.NoMemory
