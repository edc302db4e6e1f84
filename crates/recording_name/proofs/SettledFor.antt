-- What stands at a path once it is brought onto the device.
use Rattle.std.specs.Prelude.{◌≡◌, ℕ, List, Some, refl}
use Rattle.recording_name.specs.Folder.{Folder}
use Rattle.recording_name.specs.Kept.{IsSettled, HoldsWhole}
use Rattle.recording_name.specs.Standing.{IsSettledFor}
use Rattle.recording_name.specs.declared.system_folder.Access.{Access}
use Rattle.recording_name.specs.declared.settling.Settled.{Settled}
use Rattle.recording_name.specs.declared.settling.Settled.TheVariants.{ByName, Elsewhere}

pub settled_for : (settled : Settled) (access : Access) (path : List ℕ) (file : ℕ) (f g : Folder) → (settled ≡ ByName → IsSettled path file g) → HoldsWhole file f g → IsSettledFor (Some settled) access path file f g
settled_for ByName access path file f g by_name whole = (by_name refl, whole)
settled_for Elsewhere access path file f g by_name whole = whole
