-- A folder in memory, from its record of what was done: each event makes a folder of the one before.
use Rattle.std.specs.Prelude.{◌==◌, ◌||◌, ℕ, Bool, true, false, List, [], ◌∷◌, length, take, fold, ◌<◌, Contains, Option, Some, None, if◌then◌else◌, string_bytes}
use Rattle.std.specs.Str.{bytes_eq}
use Rattle.disk.specs.Contents.{Contents, put, is_between}
use Rattle.recording_name.specs.Folder.{Folder, empty_file}
use Rattle.recording_name.specs.FolderHistory.{History}
use Rattle.recording_name.specs.declared.memory_folder.Event.{Event}
use Rattle.recording_name.specs.declared.memory_folder.Event.TheVariants.{Named, Made, Wrote, FileSynced, FolderSynced}

-- no name names anything, and no file has bytes
abbrev pub empty_folder : Folder
empty_folder = record { names = λ _. None; recent = λ _. None ∷ []; files = λ _. empty_file }

-- a file into which these bytes are written
abbrev pub written : ℕ → List ℕ → Contents → Contents
written offset bytes c = record {
  now = put c.now offset bytes;
  held = c.held;
  touched = λ p. c.touched p || is_between offset (length bytes) p;
}

-- a file all of whose bytes are held
abbrev pub held_whole : Contents → Contents
held_whole c = record { now = c.now; held = c.now; touched = λ _. false }

-- the folder in which this name names this, and what these are at it
abbrev pub with_name : List ℕ → Option ℕ → (ℕ → Contents) → Folder → Folder
with_name name file files f = record {
  names = λ n. if bytes_eq name n then file else f.names n;
  recent = λ n. if bytes_eq name n then file ∷ f.recent n else f.recent n;
  files = files;
}

-- the folder with this in place of one of its files
abbrev pub with_file : ℕ → Contents → Folder → ℕ → Contents
with_file file c f i = if i == file then c else f.files i

abbrev pub after : Folder → Event → Folder
after f (Named name file) = with_name (string_bytes name) file f.files f
after f (Made name file) = with_name (string_bytes name) (Some file) (with_file file empty_file f) f
after f (Wrote file offset bytes) = record { names = f.names; recent = f.recent; files = with_file file (written offset bytes.items (f.files file)) f }
after f (FileSynced file) = record { names = f.names; recent = f.recent; files = with_file file (held_whole (f.files file)) f }
after f FolderSynced = record { names = f.names; recent = λ n. f.names n ∷ []; files = f.files }

-- what stands after these events, the first of them first
abbrev pub state_of : List Event → Folder
state_of events = fold after empty_folder events

-- Each event is one moment.
unfoldable pub history_of : List Event → History
history_of events = record { moment = length events; at = λ m. state_of (take m events) }

-- which file an event gives a name
abbrev pub given_of : Event → Option ℕ
given_of (Named name file) = file
given_of (Made name file) = Some file
given_of (Wrote file offset bytes) = None
given_of (FileSynced file) = None
given_of FolderSynced = None

-- Each file that a name has named has a smaller number.
abbrev pub IsBelow : ℕ → Folder → Type 0
IsBelow n f = (name : List ℕ) (file : ℕ) → Contains (f.recent name) (Some file) → file < n

-- whether the folder is synced by an event
abbrev pub syncs : Event → Bool
syncs FolderSynced = true
syncs (Named name file) = false
syncs (Made name file) = false
syncs (Wrote file offset bytes) = false
syncs (FileSynced file) = false
