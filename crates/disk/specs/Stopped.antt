-- What a call leaves of a disk that stops, if it failed.
use Rattle.std.specs.Prelude.{◌≡◌, ◌⊎◌, ℕ, List, ◌∷◌, true}
use Rattle.disk.specs.Contents.{put}
use Rattle.disk.specs.Memory.{Kept, IsAsBefore, history_of, noted_write}
use Rattle.disk.specs.Wrapped.{Wrapped, Fused}
use Rattle.disk.specs.declared.memory.Event.TheVariants.{Wrote}

-- The file and the record are as before, and the newest event is a stopped write just if it was.
pub record IsAsBeforeStop (old new : Fused (Wrapped Kept)) : Type 0 where
  pub kept : IsAsBefore old.disk.disk new.disk.disk
  pub flag : new.ends_in_stopped_write ≡ old.ends_in_stopped_write

-- All moments are as before, and the newest is a stopped write just if it was.
abbrev pub LeavesAll : Fused (Wrapped Kept) → Fused (Wrapped Kept) → Type 0
LeavesAll old new =
    (history_of new.disk.disk ≡ history_of old.disk.disk) × (new.ends_in_stopped_write ≡ old.ends_in_stopped_write)

-- This write is done and noted, whole, as the one that the stop met.
pub record EndsInStoppedWrite (offset : ℕ) (bytes : List ℕ) (old new : Fused (Wrapped Kept)) : Type 0 where
  pub file : new.disk.disk.bytes ≡ put old.disk.disk.bytes offset bytes
  pub noted : new.disk.disk.events ≡ Wrote (noted_write offset bytes old.disk.disk.bytes) ∷ old.disk.disk.events
  pub flag : new.ends_in_stopped_write ≡ true

-- Nothing is changed, or some write is noted whole.
abbrev pub IsAfterFault : Fused (Wrapped Kept) → Fused (Wrapped Kept) → Type 0
IsAfterFault old new =
    IsAsBeforeStop old new ⊎ ((offset : ℕ) × (bytes : List ℕ) × EndsInStoppedWrite offset bytes old new)
