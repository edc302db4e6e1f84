-- What contracts see of a reader of a host's stream.
use Rattle.std.specs.Prelude.{◌≡◌, ℕ, ◌<◌, ◌≤◌, List, [], ◌++◌, length, false, Option, None}
use Rattle.terms.specs.declared.format.Format.{Format}
use Rattle.terms.specs.Reading.{Got}
use Rattle.terms.specs.declared.wire_fault.WireFault.{WireFault}
use Rattle.rfb_wire.specs.Grammar.{ReadOver, message_at}
use Rattle.rfb_wire.specs.Host.{is_update}

-- The format of the recording, and the screen's size; of an unfinished message the bytes that are
-- kept and the number of those that are read over; for how many bytes, and for how many of their
-- rectangles, there is room; and the fault that was met, if one was.
pub record Reader : Type 0 where
  pub format : Format
  pub width : ℕ
  pub height : ℕ
  pub kept : List ℕ
  pub passed : ℕ
  pub room : ℕ
  pub capacities : ℕ
  pub fault : Option WireFault

-- a reader at the start of a stream
abbrev pub at_start : Format → ℕ → ℕ → Reader
at_start format width height =
    record { format = format; width = width; height = height; kept = []; passed = 0; room = 0; capacities = 0; fault = None }

-- the greatest number of bytes before those of a message that are read over: type, padding, and how
-- many colours or bytes of text follow
abbrev pub head_limit : ℕ
head_limit = 8

-- Bytes of an unfinished message are kept only as far as a recorded message may have them: up to the
-- limit, those of no update up to the longest text that is recorded, and of one that is read over,
-- whatever comes, its head alone.
pub record IsShort (limit width height : ℕ) (kept : List ℕ) : Type 0 where
  pub limited : length kept ≤ limit
  pub other : is_update kept ≡ false → length kept < 65544
  pub head : (more rest : List ℕ) → message_at limit width height (kept ++ more) ≡ Got ReadOver rest → length kept ≤ head_limit
