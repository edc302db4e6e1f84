-- What follows from a whole field.
use Rattle.std.specs.Prelude.{◌≡◌, ℕ, List, ◌++◌}
use Rattle.rfb_wire.specs.declared.partial_message.Stage.{Stage}
use Rattle.rfb_wire.specs.declared.partial_message.AfterField.{AfterField}
use Rattle.rfb_wire.specs.PartialMessage.{resume, step_on}

-- on a screen of any size, whatever comes
abbrev pub IsAfter : Stage → List ℕ → AfterField → Type 0
IsAfter stage field after = (width height : ℕ) → (more : List ℕ)
    → resume width height stage (field ++ more) ≡ step_on width height after more
