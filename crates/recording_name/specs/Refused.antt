-- What is left if a recording doesn't get its name.
use Rattle.std.specs.Prelude.{◌≡◌, ℕ, List, Some, None}
use Rattle.recording_name.specs.Folder.{Folder}
use Rattle.recording_name.specs.declared.publishing.PublishFault.{PublishFault}
use Rattle.recording_name.specs.declared.publishing.PublishFault.TheVariants.{NotNamed, DraftLeft, NotSettled}

-- the draft is gone, or it isn't; or the recording has its name
abbrev pub IsLeftBy : PublishFault → List ℕ → List ℕ → ℕ → Folder → Type 0
IsLeftBy (NotNamed error) draft path file f = f.names draft ≡ None
IsLeftBy (DraftLeft error) draft path file f = Unit {0}
IsLeftBy (NotSettled error) draft path file f = f.names path ≡ Some file
