-- A session with a viewer: what contracts see of it.
use Rattle.std.specs.Prelude.{◌≡◌, ℕ, List, ◌++◌, Option, Some, None}
use Rattle.client_wire.specs.declared.message.ClientMessage.{ClientMessage}
use Rattle.client_wire.specs.Reader.{Reader}
use Rattle.viewer_session.specs.declared.fault.SessionFault.{SessionFault}
use Rattle.viewer_session.specs.declared.fault.SessionFault.TheVariants as faults
use Rattle.viewer_session.specs.declared.view.View.{View}
use Rattle.viewer_session.specs.declared.listener.Listener.{Listener}
use Rattle.viewer_session.specs.Greeting.{IsSoundGreeting}
use Rattle.viewer_session.specs.Listener.{IsGoing}
use Rattle.viewer_session.specs.Stream.{Stands, Ends}
use Rattle.viewer_session.specs.View.{AreTaken, IsSound}

-- The screen's size and name, which the viewer is told; of the viewer's stream, the bytes that are
-- heard of the handshake; the bytes that are still due of its answers; after the handshake, the
-- reader of the messages; the viewer's view; and the fault that was met, if one was.
pub record Session : Type 0 where
  pub width : ℕ
  pub height : ℕ
  pub name : List ℕ
  pub heard : List ℕ
  pub due : List ℕ
  pub reader : Option Reader
  pub view : View
  pub fault : Option SessionFault

-- both tell a viewer the same
pub record AreAlike (s t : Session) : Type 0 where
  pub width : s.width ≡ t.width
  pub height : s.height ≡ t.height
  pub name : s.name ≡ t.name

-- A session that has got this stream, in which nothing is refused: these are its messages, and of
-- what the handshake is answered with this was put out, and the rest is due.
abbrev pub IsAfter : Session → List ℕ → List ClientMessage → List ℕ → Type 0
IsAfter s stream messages told = Stands s.width s.height s.name s.heard s.reader stream messages (told ++ s.due)

-- A session that got this stream, and was stopped in it by this fault: the messages are those before
-- the fault.
abbrev pub IsStopped : Session → List ℕ → List ClientMessage → List ℕ → SessionFault → Type 0
IsStopped s stream messages told f = Ends s.width s.height s.name s.reader stream messages (told ++ s.due) f

-- What feed does: the messages that are whole now are taken, one after another, and the session is
-- after the piece.
pub record Fed (old new : Session) (stream : List ℕ) (messages : List ClientMessage) (told : List ℕ) : Type 0 where
  pub more : List ClientMessage
  pub taken : AreTaken old.view new.view more
  pub after : IsAfter new stream (messages ++ more) told

-- or it is stopped in the piece, and those before the fault are taken
pub record Stopped (old new : Session) (stream : List ℕ) (messages : List ClientMessage) (told : List ℕ) (f : SessionFault) : Type 0 where
  pub more : List ClientMessage
  pub taken : AreTaken old.view new.view more
  pub ends : IsStopped new stream (messages ++ more) told f

-- the fault of a session that is closed: an earlier one stays
abbrev pub closed_by : Option SessionFault → SessionFault
closed_by None = faults.Closed
closed_by (Some f) = f

-- a session that goes on
abbrev pub Goes : Option SessionFault → Option Reader → Type 0
Goes None reader = IsGoing reader
Goes (Some f) reader = Unit {0}

-- what always holds
pub record IsSoundSession (listener : Listener) (view : View) (fault : Option SessionFault) : Type 0 where
  pub greeting : IsSoundGreeting listener.greeting
  pub view_is : IsSound view
  pub width : view.screen.width ≡ listener.greeting.size.width
  pub height : view.screen.height ≡ listener.greeting.size.height
  pub going : Goes fault listener.reader
