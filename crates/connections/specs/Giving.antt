-- What a host gives, of what comes of its stream.
use Rattle.std.specs.Prelude.{◌≡◌, ℕ, List, []}
use Rattle.terms.specs.declared.format.RecordedScreen.{RecordedScreen}
use Rattle.rfb_wire.specs.Host.{Host}
use Rattle.book_workers.specs.Receipts.{IsOfScreen}
use Rattle.host_stream.specs.Streams.{Stream, GivesNext, HasGiven}

-- a host that gives its messages: its stream, the time that was told last, in milliseconds, and how
-- many bytes the message has that was given last
pub record Giving : Type 0 where
  pub stream : Stream
  pub time : ℕ
  pub handed : ℕ

-- Whatever has come of a stream, none of its messages was given: all of them wait.
abbrev pub NoneGiven : Stream → Type 0
NoneGiven s = (bytes : List ℕ) × HasGiven s bytes []

-- The message that came next isn't one of this screen.
abbrev pub IsOfAnother : RecordedScreen → Stream → Stream → Type 0
IsOfAnother screen old new = (m : Host) × GivesNext old new m × (IsOfScreen screen m → ⊥)
