-- What a reader has made of a piece of which it judged the fields that are whole.
use Rattle.std.specs.Prelude.{◌≡◌, ℕ, ◌<◌, ◌≤◌, List, ◌++◌, length, take}
use Rattle.rfb_wire.specs.declared.partial_message.Ending.{Ending}
use Rattle.rfb_wire.specs.declared.partial_message.PartialMessage.{PartialMessage}
use Rattle.rfb_wire.specs.PartialMessage.{After, TakesFor}

-- So many bytes of the piece were taken, one at least, and it stands after the fields that they
-- end.
pub record Judged (limit width height : ℕ) (old new : PartialMessage) (piece : List ℕ) (taken : ℕ) (ending : Ending) : Type 0 where
  pub some : 0 < taken
  pub within : taken ≤ length piece
  pub bytes : new.bytes.items ≡ old.bytes.items ++ take taken piece
  pub short : length new.bytes.items ≤ limit
  pub over : new.over ≡ old.over
  pub takes : TakesFor taken old new
  pub goes : After limit width height new.bytes.items new ending
