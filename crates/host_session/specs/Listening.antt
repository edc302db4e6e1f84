-- What becomes of a piece after a host's handshake.
use Rattle.std.specs.Prelude.{◌≡◌, ℕ, List, [], ◌++◌}
use Rattle.terms.specs.Reading.{More, Bad}
use Rattle.terms.specs.declared.wire_fault.WireFault.{WireFault}
use Rattle.client_wire.specs.Stream.{Gives, StandsFor}
use Rattle.rfb_wire.specs.Grammar.{message_at, message_limit}
use Rattle.rfb_wire.specs.Host.{Host}
use Rattle.rfb_wire.specs.Reader.{Reader}
use Rattle.rfb_wire.specs.Stream.{given}
use Rattle.host_session.specs.declared.fault.HostFault.{HostFault}
use Rattle.host_session.specs.declared.fault.HostFault.TheVariants as faults
use Rattle.host_session.specs.Session.{requests_after}

-- Of a rest that the reader stands for, and the piece, the messages before the tail are given,
pub record Hears (r : Reader) (rest piece : List ℕ) (old new : List Host) (tail : List ℕ) : Type 0 where
  pub more : List Host
  pub out : new ≡ old ++ more
  pub gives : Gives (message_at (message_limit r.format) r.width r.height) (given r.format r.width r.height) [] more (rest ++ piece) tail

-- and a request for each update among them is due.
pub record Answers (r : Reader) (rest piece : List ℕ) (old new : List Host) (due later tail : List ℕ) : Type 0 where
  pub hears : Hears r rest piece old new tail
  pub said : later ≡ due ++ requests_after r.width r.height hears.more

-- the tail is an unfinished message
pub record HearsAll (r after : Reader) (rest piece : List ℕ) (old new : List Host) (due later : List ℕ) : Type 0 where
  pub tail : List ℕ
  pub answers : Answers r rest piece old new due later tail
  pub stands : StandsFor after.kept after.passed tail
  pub waits : message_at (message_limit r.format) r.width r.height tail ≡ More

-- the tail begins with a fault
pub record HearsUpTo (r : Reader) (f : WireFault) (rest piece : List ℕ) (old new : List Host) (due later : List ℕ) : Type 0 where
  pub tail : List ℕ
  pub answers : Answers r rest piece old new due later tail
  pub fault : message_at (message_limit r.format) r.width r.height tail ≡ Bad f

-- some messages are given
pub record HearsSome (r : Reader) (rest piece : List ℕ) (old new : List Host) : Type 0 where
  pub tail : List ℕ
  pub hears : Hears r rest piece old new tail

abbrev pub Listens : Reader → Reader → List ℕ → List Host → List Host → List ℕ → List ℕ → Type 0
Listens before after piece old new due later =
    (rest : List ℕ) → StandsFor before.kept before.passed rest → HearsAll before after rest piece old new due later

pub record StopsListening (before : Reader) (f : HostFault) (piece : List ℕ) (old new : List Host) (due later : List ℕ) : Type 0 where
  pub wire : WireFault
  pub is : f ≡ faults.Wire wire
  pub hears : (rest : List ℕ) → StandsFor before.kept before.passed rest
      → HearsUpTo before wire rest piece old new due later

abbrev pub ListensToSome : Reader → List ℕ → List Host → List Host → Type 0
ListensToSome before piece old new =
    (rest : List ℕ) → StandsFor before.kept before.passed rest → HearsSome before rest piece old new
