-- A folder at one moment, as a user of POSIX knows it, and what a crash may leave of it.
use Rattle.std.specs.Prelude.{◌≡◌, ◌≢◌, ◌⊎◌, ℕ, false, List, [], ◌∷◌, Option, Some, None, Contains}
use Rattle.disk.specs.Contents.{Contents, IsSynced}
use Rattle.disk.specs.Contents as disk

-- A name is the bytes of its text; a file is known by a number (an inode's), whatever names it.
-- names: what each name names now; recent: all that it has named since the folder was last synced,
-- the newest first; files: the bytes of each file, and what a crash may leave of them
pub record Folder : Type 0 where
  pub names : List ℕ → Option ℕ
  pub recent : List ℕ → List (Option ℕ)
  pub files : ℕ → Contents

-- what a crash has left: of the names, and of the files' bytes
pub record Left : Type 0 where
  pub names : List ℕ → Option ℕ
  pub bytes : ℕ → List ℕ

-- A crash may leave this. Each name names one of those that it has named since the last sync of the
-- folder, whatever other names do: so a new name may be gone, and a removed one be back. A rename
-- gives its new name another file in one step, so that this names the one or the other, and never
-- none; but the old name may be there as well, or be gone. Of bytes the rules of a disk hold.
pub record MayLeave (f : Folder) (left : Left) : Type 0 where
  pub names : (name : List ℕ) → Contains (f.recent name) (left.names name)
  pub bytes : (file : ℕ) → disk.MayLeave (f.files file) (left.bytes file)

-- What reads and look-ups give is what a crash may leave.
pub record Agrees (f : Folder) : Type 0 where
  pub names : (name : List ℕ) → Contains (f.recent name) (f.names name)
  pub files : (file : ℕ) → disk.Agrees (f.files file)

-- an empty file, all of it held
abbrev pub empty_file : Contents
empty_file = record { now = []; held = []; touched = λ _. false }

-- after a step by which this name names this file, or nothing
pub record IsNamed (name : List ℕ) (file : Option ℕ) (old new : Folder) : Type 0 where
  pub names : new.names name ≡ file
  pub recent : new.recent name ≡ file ∷ old.recent name
  pub other_names : (n : List ℕ) → n ≢ name → new.names n ≡ old.names n
  pub other_recent : (n : List ℕ) → n ≢ name → new.recent n ≡ old.recent n
  pub files : (i : ℕ) → new.files i ≡ old.files i

-- after a new file was made under this name, which named nothing: its number is one that no name
-- may name, also after a crash
pub record IsMade (name : List ℕ) (file : ℕ) (old new : Folder) : Type 0 where
  pub free : old.names name ≡ None
  pub fresh : (n : List ℕ) → Contains (old.recent n) (Some file) → ⊥
  pub names : new.names name ≡ Some file
  pub recent : new.recent name ≡ Some file ∷ old.recent name
  pub other_names : (n : List ℕ) → n ≢ name → new.names n ≡ old.names n
  pub other_recent : (n : List ℕ) → n ≢ name → new.recent n ≡ old.recent n
  pub empty : new.files file ≡ empty_file
  pub other_files : (i : ℕ) → i ≢ file → new.files i ≡ old.files i

-- after a rename: what from named, to names, and from nothing
pub record IsMoved (from to : List ℕ) (old new : Folder) : Type 0 where
  pub there : new.names to ≡ old.names from
  pub recent_there : new.recent to ≡ old.names from ∷ old.recent to
  pub gone : new.names from ≡ None
  pub recent_gone : new.recent from ≡ None ∷ old.recent from
  pub other_names : (n : List ℕ) → n ≢ from → n ≢ to → new.names n ≡ old.names n
  pub other_recent : (n : List ℕ) → n ≢ from → n ≢ to → new.recent n ≡ old.recent n
  pub files : (i : ℕ) → new.files i ≡ old.files i

-- What a rename of two names may be seen to have done, at any moment of it: nothing; or the new
-- name names the file, and the old one still does; or all.
abbrev pub IsWithinRename : List ℕ → List ℕ → Folder → Folder → Type 0
IsWithinRename from to old new =
    (new ≡ old) ⊎ (IsNamed to (old.names from) old new ⊎ IsMoved from to old new)

-- what it has done if it succeeded: all, or nothing since both names named one file already
abbrev pub IsRenamed : List ℕ → List ℕ → Folder → Folder → Type 0
IsRenamed from to old new = IsMoved from to old new ⊎ ((new ≡ old) × (old.names to ≡ old.names from))

-- after a sync of a file: its bytes are held
pub record IsFileSynced (file : ℕ) (old new : Folder) : Type 0 where
  pub names : (n : List ℕ) → new.names n ≡ old.names n
  pub recent : (n : List ℕ) → new.recent n ≡ old.recent n
  pub synced : IsSynced (old.files file) (new.files file)
  pub other_files : (i : ℕ) → i ≢ file → new.files i ≡ old.files i

-- after a sync of the folder: each name names what it names, through a crash too
pub record IsFolderSynced (old new : Folder) : Type 0 where
  pub names : (n : List ℕ) → new.names n ≡ old.names n
  pub recent : (n : List ℕ) → new.recent n ≡ old.names n ∷ []
  pub files : (i : ℕ) → new.files i ≡ old.files i
