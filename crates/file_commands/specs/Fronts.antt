-- The front of a file by which a recording is known.
use Rattle.std.specs.Prelude.{◌≡◌, ◌⊎◌, ℕ, List, codes, drop}

-- the first gate, whatever it says, and what the header of a recording of format 1 or 2 begins with
abbrev pub IsFrontOfRecording : List ℕ → Type 0
IsFrontOfRecording front = (drop 1 front ≡ codes "RFBREC1") ⊎ (drop 1 front ≡ codes "RFBREC2")
