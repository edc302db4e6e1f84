-- What becomes of a piece of a host's stream.
use Rattle.std.specs.Prelude.{◌≡◌, ℕ, List, ◌++◌, Option}
use Rattle.rfb_wire.specs.Host.{Host}
use Rattle.rfb_wire.specs.Reader.{Reader}
use Rattle.host_session.specs.declared.fault.HostFault.{HostFault}
use Rattle.host_session.specs.declared.stage.Position.{Position}
use Rattle.host_session.specs.declared.exchange.Exchange.{Exchange}
use Rattle.host_session.specs.Fault.{UnlessMemory}
use Rattle.host_session.specs.Session.{IsGoing, Stands, EndsAfter, AreGiven}
use Rattle.host_session.specs.declared.expected.ExpectedScreen.{ExpectedScreen}

-- what holds between calls
abbrev pub IsGoingAt : Exchange → Type 0
IsGoingAt p = IsGoing p.reader p.handshake.position p.handshake.kept.items

abbrev pub StandsAt : ExpectedScreen → Exchange → List ℕ → List Host → List ℕ → Type 0
StandsAt expected p stream messages said = Stands expected p.handshake.position p.handshake.kept.items p.reader stream messages said

-- messages are given, and the session is after the piece
pub record Advances (expected : ExpectedScreen) (position : Position) (kept : List ℕ) (reader : Option Reader) (stream : List ℕ) (messages : List Host) (said : List ℕ) (old new : List Host) : Type 0 where
  pub more : List Host
  pub out : new ≡ old ++ more
  pub stands : Stands expected position kept reader stream (messages ++ more) said

abbrev pub AdvancesTo : ExpectedScreen → Exchange → List ℕ → List Host → List ℕ → List Host → List Host → Type 0
AdvancesTo expected p stream messages said old new = Advances expected p.handshake.position p.handshake.kept.items p.reader stream messages said old new

-- or it is stopped in the piece
pub record Halts (expected : ExpectedScreen) (kept : List ℕ) (reader : Option Reader) (stream : List ℕ) (messages : List Host) (said : List ℕ) (f : HostFault) (old new : List Host) : Type 0 where
  pub more : List Host
  pub out : new ≡ old ++ more
  pub given : AreGiven expected kept reader stream (messages ++ more)
  pub ends : UnlessMemory f (EndsAfter expected kept reader stream (messages ++ more) said f)

abbrev pub HaltsAt : ExpectedScreen → Exchange → List ℕ → List Host → List ℕ → HostFault → List Host → List Host → Type 0
HaltsAt expected p stream messages said f old new = Halts expected p.handshake.kept.items p.reader stream messages said f old new
