-- What becomes of a piece of a viewer's stream.
use Rattle.std.specs.Prelude.{◌≡◌, ℕ, List, [], ◌++◌, drop, Option, Some, None}
use Rattle.client_wire.specs.declared.message.ClientMessage.{ClientMessage}
use Rattle.client_wire.specs.Grammar.{message_at}
use Rattle.client_wire.specs.Reader.{Reader}
use Rattle.client_wire.specs.Stream.{StandsFor, Goes, Stops, itself}
use Rattle.viewer_session.specs.declared.fault.SessionFault.{SessionFault}
use Rattle.viewer_session.specs.declared.fault.SessionFault.TheVariants as faults
use Rattle.viewer_session.specs.declared.greeting.Greeting.{Greeting}
use Rattle.viewer_session.specs.declared.listener.Listener.{Listener}
use Rattle.viewer_session.specs.Greeting.{said_by}
use Rattle.viewer_session.specs.Stream.{Stands, Ends}

-- what is still due of the handshake's answers
abbrev pub due_by : Greeting → List ℕ
due_by g = drop g.sent (said_by g)

-- a session that goes on
abbrev pub IsGoing : Option Reader → Type 0
IsGoing None = Unit {0}
IsGoing (Some r) = r.fault ≡ None

-- this was told, and the rest of the answers is due
abbrev pub StandsAt : Listener → List ℕ → List ClientMessage → List ℕ → Type 0
StandsAt p stream messages told = Stands p.greeting.size.width p.greeting.size.height p.greeting.name.items p.greeting.heard.items p.reader stream messages (told ++ due_by p.greeting)

abbrev pub EndsAt : Listener → List ℕ → List ClientMessage → List ℕ → SessionFault → Type 0
EndsAt p stream messages told f = Ends p.greeting.size.width p.greeting.size.height p.greeting.name.items p.reader stream messages (told ++ due_by p.greeting) f

-- it is the same viewer, told of the same screen
pub record TellsTheSame (old new : Greeting) : Type 0 where
  pub size : new.size ≡ old.size
  pub name : new.name ≡ old.name
  pub sent : new.sent ≡ old.sent

-- of a rest that the reader stands for, and the piece, these messages are given
abbrev pub GoesIn : Reader → Reader → List ℕ → List ClientMessage → Type 0
GoesIn old new piece messages = (rest : List ℕ) → StandsFor old.kept old.passed rest → Goes message_at itself new.kept new.passed [] messages (rest ++ piece)

-- and then there is a fault of the wire
abbrev pub StopsIn : Reader → List ℕ → List ClientMessage → SessionFault → Type 0
StopsIn old piece messages (faults.Wire f) = (rest : List ℕ) → StandsFor old.kept old.passed rest → Stops message_at itself f [] messages (rest ++ piece)
StopsIn old piece messages faults.Version = ⊥
StopsIn old piece messages faults.Security = ⊥
StopsIn old piece messages faults.Closed = ⊥
