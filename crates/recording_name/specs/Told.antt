-- What a look-up tells.
use Rattle.std.specs.Prelude.{◌≡◌, ℕ, List, length as size, Option, Some, None}
use Rattle.recording_name.specs.declared.system_folder.Identity.{Identity}
use Rattle.recording_name.specs.declared.system_folder.Found.{Found}
use Rattle.recording_name.specs.declared.system_folder.Kind.TheVariants.{File}
use Rattle.recording_name.specs.Folder.{Folder}

-- A name names the file that was found there, and if that is a regular one, it has this length.
pub record IsThere (number : Identity → ℕ) (found : Found) (name : List ℕ) (f : Folder) : Type 0 where
  pub named : f.names name ≡ Some (number found.identity)
  pub length : found.kind ≡ File → found.length ≡ size (f.files (number found.identity)).now

-- What is found is this file, and if that is a regular one, it has this length.
pub record IsThat (number : Identity → ℕ) (found : Found) (file : ℕ) (f : Folder) : Type 0 where
  pub same : number found.identity ≡ file
  pub length : found.kind ≡ File → found.length ≡ size (f.files file).now

-- what is found at a name is the file that it names, or nothing
abbrev pub IsTold : (Identity → ℕ) → Option Found → List ℕ → Folder → Type 0
IsTold number None name f = f.names name ≡ None
IsTold number (Some found) name f = IsThere number found name f

-- what is opened at a name is the file that it names, or nothing
abbrev pub IsOpened : {F : Type 0} → (F → ℕ) → Option F → Option ℕ → Type 0
IsOpened number None named = named ≡ None
IsOpened number (Some file) named = named ≡ Some (number file)
