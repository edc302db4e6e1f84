-- What is known of the file to which a recording is written.
use Rattle.std.specs.Prelude.{ℕ, List, Option, Some, None}
use Rattle.recording_name.specs.Folder.{Folder}
use Rattle.recording_name.specs.Kept.{IsNew}
use Rattle.recording_name.specs.declared.target.Target.{Target}
use Rattle.recording_name.specs.declared.target.Target.TheVariants.{Made, There}

-- a file that was made, if one was, is new under this name
abbrev pub IsNewIf : {F : Type 0} → (F → ℕ) → Option F → List ℕ → Folder → Type 0
IsNewIf number None path f = Unit {0}
IsNewIf number (Some file) path f = IsNew path (number file) f

-- the same of a target; one that was there is as it was
abbrev pub IsTarget : {F : Type 0} → (F → ℕ) → Target F → List ℕ → Folder → Type 0
IsTarget number (Made file) path f = IsNew path (number file) f
IsTarget number (There file) path f = Unit {0}
