-- What a piece of a viewer's stream makes of a session, whatever it has got before.
use Rattle.std.specs.Prelude.{◌≡◌, ℕ, List, ◌++◌}
use Rattle.pixel_format.specs.Canvas.{Picture}
use Rattle.gated_journal.specs.Recording.{Head}
use Rattle.keyed_entries.specs.declared.entry.Stamped.{Stamped}
use Rattle.client_wire.specs.declared.message.ClientMessage.{ClientMessage}
use Rattle.viewer_session.specs.declared.fault.SessionFault.{SessionFault}
use Rattle.viewer_session.specs.View.{IsRight}
use Rattle.viewer_session.specs.Session.{Session, IsAfter, Fed, Stopped}

-- Whatever stream the session has got, it has got the piece too, and goes on.
abbrev pub Takes : Session → Session → List ℕ → Type 0
Takes old new piece = (stream told : List ℕ) → (messages : List ClientMessage) → IsAfter old stream messages told
    → Fed old new (stream ++ piece) messages told

-- This fault stands in the stream with the piece after it.
abbrev pub StopsIn : Session → Session → List ℕ → SessionFault → Type 0
StopsIn old new piece f = (stream told : List ℕ) → (messages : List ClientMessage) → IsAfter old stream messages told
    → Stopped old new (stream ++ piece) messages told f

-- The viewer is told the same, the session shows the same messages, and its view stays right.
pub record KeepsView (old new : Session) : Type 0 where
  pub width : new.width ≡ old.width
  pub height : new.height ≡ old.height
  pub name : new.name ≡ old.name
  pub screen : new.view.screen ≡ old.view.screen
  pub position : new.view.position ≡ old.view.position
  pub right : (head : Head) → (seen : Picture) → (list : List Stamped) → IsRight head old.view seen list → IsRight head new.view seen list
