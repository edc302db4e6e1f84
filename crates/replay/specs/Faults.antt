-- The faults by the numbers that programs print, from 1 on, and why a message isn't read.
use Rattle.std.specs.Prelude.{List, [], ◌∷◌}
use Rattle.block_walk.specs.declared.faults.ReadFault.{ReadFault}
use Rattle.block_walk.specs.declared.faults.ReadFault.TheVariants as read
use Rattle.replay.specs.declared.fault.ReplayFault.{ReplayFault}
use Rattle.replay.specs.declared.fault.ReplayFault.TheVariants as replay

abbrev pub replay_faults : List ReplayFault
replay_faults = replay.NotCommitted ∷ replay.Device ∷ replay.NoMemory ∷ []

-- why a replay stops if a message isn't read
abbrev pub fault_of_read : ReadFault → ReplayFault
fault_of_read read.NoMemory = replay.NoMemory
fault_of_read read.Device = replay.Device
