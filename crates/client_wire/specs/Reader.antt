-- What contracts see of a reader of a viewer's stream.
use Rattle.std.specs.Prelude.{◌≡◌, ℕ, ◌≤◌, List, ◌++◌, length, Option}
use Rattle.terms.specs.Reading.{Got}
use Rattle.terms.specs.declared.wire_fault.WireFault.{WireFault}
use Rattle.client_wire.specs.declared.message_type.ClientMessageType.{ClientMessageType}
use Rattle.client_wire.specs.declared.message.ClientMessage.TheVariants as messages
use Rattle.client_wire.specs.Grammar.{message_at}

-- Fewer bytes than these are kept, whatever comes: the longest message whose bytes are kept, a
-- SetEncodings of 65,535 encodings, has as many.
abbrev pub kept_limit : ℕ
kept_limit = 262144

-- the greatest number of bytes before those of an input message that are counted alone: the type,
-- and of a cut text the padding and the text's length
abbrev pub head_limit : ℕ
head_limit = 8

-- of bytes that begin an input message, whatever comes, no more than its head
abbrev pub IsHeadAlone : List ℕ → Type 0
IsHeadAlone kept = (more rest : List ℕ) → (type : ClientMessageType) → message_at (kept ++ more) ≡ Got (messages.Input type) rest → length kept ≤ head_limit

-- Of an unfinished message the bytes that are kept and the number of those that are read over; for
-- how many bytes there is room; and the fault that was met, if one was.
pub record Reader : Type 0 where
  pub kept : List ℕ
  pub passed : ℕ
  pub room : ℕ
  pub fault : Option WireFault
