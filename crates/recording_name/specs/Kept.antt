-- What a crash leaves at a name, by what it might have left there before.
use Rattle.std.specs.Prelude.{◌≡◌, ◌≢◌, ◌⊎◌, ℕ, List, [], Option, Some, Contains}
use Rattle.disk.specs.Contents.{Contents}
use Rattle.disk.specs.Contents as disk
use Rattle.recording_name.specs.Folder.{Folder, Left, empty_file}

-- A crash has left at this name what one at f might have left there: which file, and its bytes.
pub record IsAsAt (f : Folder) (name : List ℕ) (left : Left) : Type 0 where
  pub names : Contains (f.recent name) (left.names name)
  pub bytes : (file : ℕ) → left.names name ≡ Some file → disk.MayLeave (f.files file) (left.bytes file)

-- A crash has left this file at the name, with these bytes.
pub record IsWhole (name : List ℕ) (file : ℕ) (bytes : List ℕ) (left : Left) : Type 0 where
  pub named : left.names name ≡ Some file
  pub whole : left.bytes file ≡ bytes

-- Each crash at g leaves at this name what one at f might have left there.
pub record Keeps (f : Folder) (name : List ℕ) (g : Folder) : Type 0 where
  pub names : (x : Option ℕ) → Contains (g.recent name) x → Contains (f.recent name) x
  pub bytes : (file : ℕ) (bytes : List ℕ) → Contains (g.recent name) (Some file) → disk.MayLeave (g.files file) bytes → disk.MayLeave (f.files file) bytes

-- Each crash leaves a file of these contents with these bytes.
abbrev pub HasOnly : Contents → List ℕ → Type 0
HasOnly c bytes = (left : List ℕ) → disk.MayLeave c left → left ≡ bytes

-- Each crash at g leaves in this file just what reads gave at f.
abbrev pub HoldsWhole : ℕ → Folder → Folder → Type 0
HoldsWhole file f g = HasOnly (g.files file) (f.files file).now

-- what one of the names' files is at g: one that a crash at f might have left there, with bytes
-- that it might have left in it; or this file, whole
pub record IsKept (f : Folder) (name : List ℕ) (g : Folder) (x : Option ℕ) : Type 0 where
  pub names : Contains (f.recent name) x
  pub bytes : (file : ℕ) (bytes : List ℕ) → x ≡ Some file → disk.MayLeave (g.files file) bytes → disk.MayLeave (f.files file) bytes

-- Each crash at g leaves at this name what one at f might have left there, or this file with these
-- bytes.
abbrev pub KeepsOrIsWhole : Folder → List ℕ → ℕ → List ℕ → Folder → Type 0
KeepsOrIsWhole f name file bytes g =
    (x : Option ℕ) → Contains (g.recent name) x → IsKept f name g x ⊎ ((x ≡ Some file) × HasOnly (g.files file) bytes)

-- Each crash leaves this name naming this file.
abbrev pub IsSettled : List ℕ → ℕ → Folder → Type 0
IsSettled name file g = (x : Option ℕ) → Contains (g.recent name) x → x ≡ Some file

-- This name names a file without bytes, which no other name may name, also after a crash.
pub record IsNew (name : List ℕ) (file : ℕ) (f : Folder) : Type 0 where
  pub named : f.names name ≡ Some file
  pub alone : (n : List ℕ) → n ≢ name → Contains (f.recent n) (Some file) → ⊥
  pub empty : f.files file ≡ empty_file

-- This name names nothing, or a file without bytes.
abbrev pub IsFree : List ℕ → Folder → Type 0
IsFree name f = (file : ℕ) → f.names name ≡ Some file → (f.files file).now ≡ []

-- what lies under this name may go
abbrev pub MayAllGo : (List ℕ → Type 0) → List ℕ → Folder → Type 0
MayAllGo may_go name f = (file : ℕ) → f.names name ≡ Some file → may_go (f.files file).now

-- what lay under a name is there still, or might go
abbrev pub ReplacesOnly : (List ℕ → Type 0) → List ℕ → Folder → Folder → Type 0
ReplacesOnly may_go name old new =
    (file : ℕ) → old.names name ≡ Some file → (new.names name ≡ Some file) ⊎ may_go (old.files file).now

-- Only the bytes of this file are changed.
pub record WritesOnly (file : ℕ) (old new : Folder) : Type 0 where
  pub names : (n : List ℕ) → new.names n ≡ old.names n
  pub recent : (n : List ℕ) → new.recent n ≡ old.recent n
  pub other_files : (i : ℕ) → i ≢ file → new.files i ≡ old.files i
