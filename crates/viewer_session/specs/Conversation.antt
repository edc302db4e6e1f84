-- What is put out to a viewer over a whole connection, whatever it is fed and however it is cut: the
-- handshake's answers, and then updates; and what a viewer shows that paints them.
use Rattle.std.specs.Prelude.{◌≡◌, ℕ, ◌⊎◌, List, [], ◌∷◌, ◌++◌, Some, None}
use Rattle.std.specs.List.{flat_map, AllByRecursion}
use Rattle.pixel_format.specs.Format.{Format}
use Rattle.pixel_format.specs.Canvas.{Picture}
use Rattle.terms.specs.Reading.{Got}
use Rattle.terms.specs.Appending.{Appends}
use Rattle.rect_codec.specs.Update.{Drawn, update_at, all_painted}
use Rattle.gated_journal.specs.Recording.{Head}
use Rattle.keyed_entries.specs.declared.entry.Stamped.{Stamped}
use Rattle.client_wire.specs.declared.message.ClientMessage.{ClientMessage}
use Rattle.viewer_session.specs.declared.fault.SessionFault.{SessionFault}
use Rattle.viewer_session.specs.View.{IsRight, IsDue, Answers, AreTaken}
use Rattle.viewer_session.specs.Session.{Session, IsAfter, IsStopped}

-- an update that was put out: the format in which the viewer took it, its rectangles, and its bytes
pub record Sent : Type 0 where
  pub format : Format
  pub drawn : List Drawn
  pub bytes : List ℕ

-- a viewer of a screen of this size reads it so
abbrev pub IsReadAs : ℕ → ℕ → Sent → Type 0
IsReadAs width height u = update_at u.format width height u.bytes ≡ Got u.drawn []

abbrev pub bytes_of : Sent → List ℕ
bytes_of u = u.bytes

-- what a viewer shows that paints updates, one after another, over what it showed
abbrev pub painted_by : List Sent → Picture → Picture
painted_by [] shown = shown
painted_by (u ∷ us) shown = painted_by us (all_painted u.format u.drawn shown)

-- The session has got this stream, and goes on; or it was stopped in it.
abbrev pub HasGot : Session → List ℕ → List ClientMessage → List ℕ → Type 0
HasGot s stream messages told = IsAfter s stream messages told ⊎ ((f : SessionFault) × (s.fault ≡ Some f) × IsStopped s stream messages told f)

-- A viewer is served: it has sent this stream, of these messages. What was put out to it is what it
-- was told of the handshake's answers, and then updates, each of which it reads. A viewer that has
-- painted them, whatever it showed before, has the right view.
pub record IsServed (head : Head) (s : Session) (stream : List ℕ) (messages : List ClientMessage) (told : List ℕ) (updates : List Sent) (put : List ℕ) (shown : Picture) (list : List Stamped) : Type 0 where
  pub got : HasGot s stream messages told
  pub put_is : put ≡ told ++ flat_map bytes_of updates
  -- all the answers stand before the first update
  pub first : (updates ≡ []) ⊎ (s.due ≡ [])
  pub each : AllByRecursion (IsReadAs s.view.screen.width s.view.screen.height) updates
  pub right : IsRight head s.view (painted_by updates shown) list
  -- nothing is asked for, and nothing put out, before the viewer's first message
  pub asked : messages ≡ [] → (s.view.pending ≡ None) × (updates ≡ [])

-- the viewer is still served, and these messages more are taken
pub record StaysServed (head : Head) (old new : Session) (stream : List ℕ) (messages : List ClientMessage) (told : List ℕ) (updates : List Sent) (put : List ℕ) (shown : Picture) (list : List Stamped) : Type 0 where
  pub more : List ClientMessage
  pub taken : AreTaken old.view new.view more
  pub served : IsServed head new stream (messages ++ more) told updates put shown list

-- What `answer` says of a session and what it appends to bytes.
pub record IsAnswered (old new : Session) (before after : List ℕ) : Type 0 where
  pub due : IsDue old.view → Appends (Answers old.view new.view) (before ++ old.due) after
  pub none : (IsDue old.view → ⊥) → (after ≡ before ++ old.due) × (new.view ≡ old.view)
  pub screen : new.view.screen ≡ old.view.screen
  pub kept : new ≡ record old { due = []; view = new.view }

-- an update in the viewer's format is put out if one is due, and else none
abbrev pub IsPutOut : Session → List Sent → Type 0
IsPutOut s [] = IsDue s.view → ⊥
IsPutOut s (u ∷ us) = IsDue s.view × (u.format ≡ s.view.format) × (us ≡ [])

-- all the handshake's answers that were due are told, and then the update, if one is due
pub record IsServedOn (head : Head) (old new : Session) (stream : List ℕ) (messages : List ClientMessage) (told : List ℕ) (updates : List Sent) (put : List ℕ) (shown : Picture) (list : List Stamped) (before after : List ℕ) : Type 0 where
  pub last : List Sent
  pub is_due : IsPutOut old last
  pub after_is : after ≡ before ++ (old.due ++ flat_map bytes_of last)
  pub served : IsServed head new stream messages (told ++ old.due) (updates ++ last) (put ++ (old.due ++ flat_map bytes_of last)) shown list
