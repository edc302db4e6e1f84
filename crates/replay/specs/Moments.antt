-- Which messages of a recording a moment shows.
use Rattle.std.specs.Prelude.{◌≡◌, ℕ, ◌-◌, ◌<◌, ◌≤◌, List, Some, length, take, drop}
use Rattle.std.specs.List.{slice_get, AllByRecursion}
use Rattle.keyed_entries.specs.declared.entry.Stamped.{Stamped}
use Rattle.key_index.specs.Index.{first_time}

-- So many messages have come at this time, in milliseconds since the recording's start: each of them
-- at it or before, and all others later.
pub record IsShownAt (time : ℕ) (messages : List Stamped) (n : ℕ) : Type 0 where
  pub within : n ≤ length messages
  pub came : AllByRecursion (λ s. s.time ≤ time) (take n messages)
  pub later : AllByRecursion (λ s. time < s.time) (drop n messages)

-- the last of so many blocks begins at this time or before, and the one after them later
pub record BeginsBlocks (time : ℕ) (blocks : List (List Stamped)) (n : ℕ) : Type 0 where
  pub begun : (ms : List Stamped) → 0 < n → slice_get blocks (n - 1) ≡ Some ms → first_time ms ≤ time
  pub later : (ms : List Stamped) → slice_get blocks n ≡ Some ms → time < first_time ms
