-- The moments of a memory disk, from its file and its record of writes and syncs: undoing gives the
-- past.
use Rattle.std.specs.Prelude.{◌≡◌, ℕ, ◌-◌, min, zero, suc, Bool, false, ◌||◌, List, [], ◌∷◌, length, take, drop}
use Rattle.disk.specs.Overwrite.{Overwrite}
use Rattle.disk.specs.Contents.{Contents, put, is_between}
use Rattle.disk.specs.History.{History}
use Rattle.disk.specs.declared.memory.Event.{Event}
use Rattle.disk.specs.declared.memory.Event.TheVariants.{Wrote, Synced}

-- the file, what was written and synced since it was made (the newest first), and how many calls
-- have failed
pub record Kept : Type 0 where
  pub bytes : List ℕ
  pub events : List Event
  pub failures : ℕ

-- the note of a write of these bytes into this file
abbrev pub noted_write : ℕ → List ℕ → List ℕ → Overwrite
noted_write offset bytes file = record { offset = offset; count = length bytes; length_before = length file; replaced = take (length bytes) (drop offset file) }

-- The file before this write: what it replaced is put back, and what it added is gone. Undoing
-- never makes a file longer, whatever the note says.
unfoldable pub before_write : Overwrite → List ℕ → List ℕ
before_write w file = take (min w.length_before (length file)) (put file w.offset (take w.count w.replaced))

-- the file before this event
abbrev pub before_event : Event → List ℕ → List ℕ
before_event (Wrote w) file = before_write w file
before_event Synced file = file

-- what the file was at the last sync, or when the disk was made
abbrev pub held_of : List ℕ → List Event → List ℕ
held_of file [] = file
held_of file (Wrote w ∷ earlier) = held_of (before_write w file) earlier
held_of file (Synced ∷ earlier) = file

-- whether a write since then had offset p in its range
abbrev pub is_touched : List Event → ℕ → Bool
is_touched [] p = false
is_touched (Wrote w ∷ earlier) p = is_touched earlier p || is_between w.offset w.count p
is_touched (Synced ∷ earlier) p = false

-- what stands after these events
abbrev pub contents_of : List ℕ → List Event → Contents
contents_of file events = record { now = file; held = held_of file events; touched = is_touched events }

-- what stood this many events ago
abbrev pub contents_before : ℕ → List ℕ → List Event → Contents
contents_before zero file events = contents_of file events
contents_before (suc n) file [] = contents_of file []
contents_before (suc n) file (event ∷ earlier) = contents_before n (before_event event file) earlier

-- Each event is one moment.
unfoldable pub moments_of : List ℕ → List Event → History
moments_of file events = record { moment = length events; at = λ m. contents_before (length events - m) file events }

abbrev pub history_of : Kept → History
history_of d = moments_of d.bytes d.events

-- A call has changed neither the file nor the record.
pub record IsAsBefore (old new : Kept) : Type 0 where
  pub bytes : new.bytes ≡ old.bytes
  pub events : new.events ≡ old.events

-- The newest event was a write, and is undone.
pub record IsTakenBack (old new : Kept) : Type 0 where
  pub write : Overwrite
  pub noted : old.events ≡ Wrote write ∷ new.events
  pub undone : new.bytes ≡ before_write write old.bytes
