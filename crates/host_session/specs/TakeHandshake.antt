-- What becomes of a session in a host's handshake.
use Rattle.std.specs.Prelude.{◌≡◌, ℕ, ◌≤◌, List, length, take, Option, Some, None}
use Rattle.rfb_wire.specs.Reader.{Reader, at_start}
use Rattle.host_session.specs.declared.fault.HostFault.{HostFault}
use Rattle.host_session.specs.declared.exchange.Exchange.{Exchange}
use Rattle.host_session.specs.Fault.{UnlessMemory}
use Rattle.host_session.specs.Stage.{IsUnfinished, Leads, Ends, Fails}
use Rattle.host_session.specs.Take.{Says, told_at}
use Rattle.host_session.specs.declared.expected.ExpectedScreen.{ExpectedScreen}

-- the handshake goes on
pub record GoesOn (expected : ExpectedScreen) (old new : Exchange) (piece due later : List ℕ) : Type 0 where
  pub handshake : new.reader ≡ None
  pub leads : Says (λ said. Leads expected old.handshake.position old.handshake.kept.items piece said new.handshake.position new.handshake.kept.items) due later
  pub unfinished : IsUnfinished new.handshake.position new.handshake.kept.items

-- the handshake is whole, and its answers are due
pub record IsWhole (expected : ExpectedScreen) (old new : Exchange) (n : ℕ) (piece due later : List ℕ) : Type 0 where
  pub some : n ≤ length piece
  pub reader : Reader
  pub is : new.reader ≡ Some reader
  pub begins : reader ≡ at_start expected.format reader.width reader.height
  pub ends : Says (λ said. Ends expected old.handshake.position old.handshake.kept.items (take n piece) said (told_at reader.width reader.height new.handshake.kept.items)) due later

abbrev pub IsHandshakeTaken : ExpectedScreen → Exchange → Exchange → List ℕ → List ℕ → List ℕ → Option ℕ → Type 0
IsHandshakeTaken expected old new piece due later None = GoesOn expected old new piece due later
IsHandshakeTaken expected old new piece due later (Some n) = IsWhole expected old new n piece due later

pub record IsHandshakeRefused (expected : ExpectedScreen) (old new : Exchange) (piece due later : List ℕ) (f : HostFault) : Type 0 where
  pub handshake : new.reader ≡ None
  pub fault : UnlessMemory f (Says (λ said. Fails expected old.handshake.position old.handshake.kept.items piece said f new.handshake.kept.items) due later)
