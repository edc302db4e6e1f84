-- What is given of a stream of a host's messages.
use Rattle.std.specs.Prelude.{◌≡◌, ℕ, List, [], ◌∷◌}
use Rattle.terms.specs.declared.format.Format.{Format}
use Rattle.rfb_wire.specs.Grammar.{Message, Recorded, ReadOver}
use Rattle.rfb_wire.specs.Host.{Host, host_of, IsRecorded}

-- a recorded message for a screen of this size, which is recorded in this format
pub record IsFor (format : Format) (width height : ℕ) (m : Host) : Type 0 where
  pub format_is : m.format ≡ format
  pub width_is : m.width ≡ width
  pub height_is : m.height ≡ height
  pub recorded : IsRecorded m

-- a recorded message is given with its bytes, and one that is read over isn't
abbrev pub given : Format → ℕ → ℕ → Message → List ℕ → List Host
given format width height (Recorded rectangles) bytes = host_of format width height bytes rectangles ∷ []
given format width height ReadOver bytes = []
