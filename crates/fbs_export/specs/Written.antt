-- What a writer has been given, and which exports are refused before.
use Rattle.std.specs.Prelude.{◌≡◌, ◌<◌, ◌≤◌, ◌⊎◌, ℕ, List, ◌++◌, length, Option}
use Rattle.std.specs.Io.KnownBytes.{Appends}
use Rattle.replay.specs.Indexed.{Numbers, start_in}

-- a beginning of the text was written
pub record WroteFront (old new : Option (List ℕ)) (text : List ℕ) : Type 0 where
  pub front : List ℕ
  pub following : List ℕ
  pub is : text ≡ front ++ following
  pub wrote : Appends old new front

-- The block is there, and the end lies before its start, or beyond the messages that count. The
-- block that is the number of blocks begins after the last message.
pub record IsBadEnd (numbers : Numbers) (block to : ℕ) : Type 0 where
  pub block_is_there : block ≤ length numbers.starts
  pub outside : (to < start_in numbers block) ⊎ (numbers.committed < to)
