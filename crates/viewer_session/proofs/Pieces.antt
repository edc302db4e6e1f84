-- A session that takes a piece by its parts.
use Rattle.std.proofs.Common.{◌≡◌, ℕ, List, [], ◌∷◌, ◌++◌, ◌∙◌, refl, sym, subst, append_assoc}
use Rattle.std.specs.Prelude.{Option, Some, None}
use Rattle.std.proofs.lemmas.List.{append-nil}
use Rattle.terms.specs.Reading.{Bad}
use Rattle.client_wire.specs.declared.message.ClientMessage.{ClientMessage}
use Rattle.client_wire.specs.Grammar.{message_at}
use Rattle.client_wire.specs.Reader.{Reader}
use Rattle.client_wire.specs.Stream.{itself}
use Rattle.client_wire.proofs.Local.{message_local}
use Rattle.client_wire.proofs.Fronts.{unless_memory_map}
use Rattle.client_wire.proofs.Streams.{gives_then, gives_none}
use Rattle.viewer_session.specs.declared.fault.SessionFault.{SessionFault}
use Rattle.viewer_session.specs.declared.fault.SessionFault.TheVariants as faults
use Rattle.viewer_session.specs.declared.view.View.{View}
use Rattle.viewer_session.specs.View.{AreTaken}
use Rattle.viewer_session.specs.Stream.{Ends}
use Rattle.viewer_session.specs.Session.{Session, IsAfter, IsStopped, Fed, Stopped}
use Rattle.viewer_session.specs.Feeding.{KeepsView}
use Rattle.viewer_session.proofs.Handshakes.{whole_more, bad_more}

taken_append : (a b c : View) (ms ns : List ClientMessage) → AreTaken a b ms → AreTaken b c ns → AreTaken a c (ms ++ ns)
taken_append a b c [] ns taken more = subst (λ (v : View). AreTaken v c ns) taken more
taken_append a b c (m ∷ ms) ns taken more = (taken.0, taken.1, taken_append taken.0 b c ms ns taken.2 more)

-- no bytes
pub fed_none : (s : Session) (stream told : List ℕ) (messages : List ClientMessage) → IsAfter s stream messages told → Fed s s (stream ++ []) messages told
fed_none s stream told messages is = record {
  more = [];
  taken = refl;
  after = subst (λ (z : List ℕ). IsAfter s z (messages ++ []) told) (sym (append-nil stream))
      (subst (λ (ms : List ClientMessage). IsAfter s stream ms told) (sym (append-nil messages)) is);
}

-- a part more
pub fed_more : (a b c : Session) (stream front part told : List ℕ) (messages : List ClientMessage) → Fed a b (stream ++ front) messages told
    → ((s t : List ℕ) (ms : List ClientMessage) → IsAfter b s ms t → Fed b c (s ++ part) ms t) → Fed a c (stream ++ (front ++ part)) messages told
fed_more a b c stream front part told messages f goes =
    let g = goes (stream ++ front) told (messages ++ f.more) f.after in
    record {
      more = f.more ++ g.more;
      taken = taken_append a.view b.view c.view f.more g.more f.taken g.taken;
      after = subst (λ (z : List ℕ). IsAfter c z (messages ++ (f.more ++ g.more)) told) (append_assoc stream front part)
          (subst (λ (ms : List ClientMessage). IsAfter c ((stream ++ front) ++ part) ms told) (append_assoc messages f.more g.more) g.after);
    }

-- a fault stays as it is, whatever follows
pub ends_more : (w h : ℕ) (name : List ℕ) (reader : Option Reader) (stream more : List ℕ) (messages : List ClientMessage) (said : List ℕ) (f : SessionFault)
    → Ends w h name reader stream messages said f → Ends w h name reader (stream ++ more) messages said f
ends_more w h name None stream more messages said f e = record { reads = bad_more w h name stream more said f e.reads; none = e.none }
ends_more w h name (Some r) stream more messages said (faults.Wire f) e = record {
  tail = e.tail ++ more;
  gets = record {
    rest = e.gets.rest ++ more;
    handshake = whole_more w h name stream more said e.gets.rest e.gets.handshake;
    gives = gives_then message_at itself [] messages messages e.gets.rest e.tail more (e.tail ++ more) e.gets.gives
        (gives_none message_at itself messages messages (e.tail ++ more) (e.tail ++ more) refl refl);
  };
  fault = unless_memory_map f (message_at e.tail ≡ Bad f) (message_at (e.tail ++ more) ≡ Bad f) (λ bad. let l = message_local e.tail more in rw bad at l) e.fault;
}
ends_more w h name (Some r) stream more messages said faults.Version e = absurd e
ends_more w h name (Some r) stream more messages said faults.Security e = absurd e
ends_more w h name (Some r) stream more messages said faults.Closed e = absurd e

-- a part in which the session is stopped, and what follows it
pub fed_stopped : (a b c : Session) (stream front part following told : List ℕ) (messages : List ClientMessage) (f : SessionFault) → Fed a b (stream ++ front) messages told
    → ((s t : List ℕ) (ms : List ClientMessage) → IsAfter b s ms t → Stopped b c (s ++ part) ms t f) → Stopped a c (stream ++ (front ++ (part ++ following))) messages told f
fed_stopped a b c stream front part following told messages f fed stops =
    let g = stops (stream ++ front) told (messages ++ fed.more) fed.after in
    let first : IsStopped c ((stream ++ front) ++ part) (messages ++ (fed.more ++ g.more)) told f =
    subst (λ (ms : List ClientMessage). IsStopped c ((stream ++ front) ++ part) ms told f) (append_assoc messages fed.more g.more) g.ends in
    record {
      more = fed.more ++ g.more;
      taken = taken_append a.view b.view c.view fed.more g.more fed.taken g.taken;
      ends = subst (λ (z : List ℕ). IsStopped c z (messages ++ (fed.more ++ g.more)) told f)
          (append_assoc (stream ++ front) part following ∙ append_assoc stream front (part ++ following))
          (ends_more c.width c.height c.name c.reader ((stream ++ front) ++ part) following (messages ++ (fed.more ++ g.more)) (told ++ c.due) f first);
    }

-- what is kept twice is kept
pub kept_again : (a b c : Session) → KeepsView a b → KeepsView b c → KeepsView a c
kept_again a b c first then = record {
  width = then.width ∙ first.width;
  height = then.height ∙ first.height;
  name = then.name ∙ first.name;
  screen = then.screen ∙ first.screen;
  position = then.position ∙ first.position;
  right = λ head seen list right. then.right head seen list (first.right head seen list right);
}
