-- What is known of what stands at a recording's path.
use Rattle.std.specs.Prelude.{◌≡◌, ℕ, List, [], Option, Some, None}
use Rattle.recording_name.specs.Folder.{Folder}
use Rattle.recording_name.specs.Kept.{IsSettled, HoldsWhole}
use Rattle.recording_name.specs.declared.system_folder.Access.{Access}
use Rattle.recording_name.specs.declared.system_folder.Access.TheVariants.{Read}
use Rattle.recording_name.specs.declared.settling.Settled.{Settled}
use Rattle.recording_name.specs.declared.settling.Settled.TheVariants.{ByName, Elsewhere}
use Rattle.recording_name.specs.declared.standing.Standing.{Standing}
use Rattle.recording_name.specs.declared.standing.Standing.TheVariants.{Recording, Empty, Nothing}

-- Whether each crash leaves the file at its name, and in it what reads gave: at its name, if the
-- path is no link; at all, if it was brought onto the device, as all is that is to be written.
abbrev pub IsSettledFor : Option Settled → Access → List ℕ → ℕ → Folder → Folder → Type 0
IsSettledFor None access path file f g = access ≡ Read
IsSettledFor (Some ByName) access path file f g = IsSettled path file g × HoldsWhole file f g
IsSettledFor (Some Elsewhere) access path file f g = HoldsWhole file f g

-- What stands at a path: a file that is brought onto the device; one without bytes; or nothing.
abbrev pub IsStanding : {F : Type 0} → (F → ℕ) → Standing F → Access → List ℕ → Folder → Folder → Type 0
IsStanding number (Recording file found settled) access path f g = IsSettledFor settled access path (number file) f g
IsStanding number (Empty file) access path f g = (g.names path ≡ Some (number file)) × ((g.files (number file)).now ≡ [])
IsStanding number Nothing access path f g = g.names path ≡ None
