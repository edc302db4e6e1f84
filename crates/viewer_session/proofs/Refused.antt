-- A viewer's stream is refused with one fault, unless memory runs out.
use Rattle.std.proofs.Common.{◌≡◌, ℕ, List, [], sym, ap, ◌∙◌}
use Rattle.std.specs.Prelude.{Option, Some, None}
use Rattle.terms.specs.Reading.{Bad}
use Rattle.terms.specs.Talk.{Talk}
use Rattle.terms.proofs.Lacks.{unless_other}
use Rattle.terms.specs.declared.wire_fault.WireFault.{WireFault}
use Rattle.terms.specs.declared.wire_fault.WireFault.TheVariants as wire
use Rattle.client_wire.specs.declared.message.ClientMessage.{ClientMessage}
use Rattle.client_wire.specs.Grammar.{message_at}
use Rattle.client_wire.specs.Reader.{Reader}
use Rattle.client_wire.specs.Stream.{Gives, itself, given_of}
use Rattle.client_wire.proofs.Local.{message_local}
use Rattle.client_wire.proofs.Streams.{one_reading, fault_begins_none}
use Rattle.viewer_session.specs.declared.fault.SessionFault.{SessionFault}
use Rattle.viewer_session.specs.declared.fault.SessionFault.TheVariants as faults
use Rattle.viewer_session.specs.Stream.{Ends}

same_messages : (rest after : List ℕ) (ms ns : List ClientMessage) (tail end : List ℕ) (f g : WireFault) → rest ≡ after
    → Gives message_at itself [] ms rest tail → message_at tail ≡ Bad f → Gives message_at itself [] ns after end → message_at end ≡ Bad g
    → (faults.Wire f ≡ faults.Wire g) × (ms ≡ ns)
same_messages rest after ms ns tail end f g is a bad b fault =
    let one = one_reading message_at message_local rest after a.parts b.parts tail end is
    a.reads (fault_begins_none message_at message_local tail f bad) b.reads (fault_begins_none message_at message_local end g fault) in
    let both = sym bad ∙ ap message_at one.1 ∙ fault in
    let same : f ≡ g = cc in
    (ap faults.Wire same, a.given ∙ ap (given_of itself) one.0 ∙ sym b.given)

pub one_fault : (w h : ℕ) (name : List ℕ) (before after : Option Reader) (stream : List ℕ) (ms ns : List ClientMessage) (said put : List ℕ) (f g : SessionFault)
    → Ends w h name before stream ms said f → Ends w h name after stream ns put g
    → (f ≡ faults.Wire wire.NoMemory → ⊥) → (g ≡ faults.Wire wire.NoMemory → ⊥) → (f ≡ g) × (ms ≡ ns) × (said ≡ put)
one_fault w h name None None stream ms ns said put f g a b m n =
    let e = sym a.reads ∙ b.reads in
    let heard = ap (λ (t : Talk (Unit {0}) SessionFault). t.heard) e in
    let same : f ≡ g = cc in
    (same, a.none ∙ sym b.none, ap (λ (t : Talk (Unit {0}) SessionFault). t.said) e)
one_fault w h name None (Some r) stream ms ns said put f (faults.Wire g) a b m n =
    let e = ap (λ (t : Talk (Unit {0}) SessionFault). t.heard) (sym a.reads ∙ b.gets.handshake) in
    absurd (cc)
one_fault w h name None (Some r) stream ms ns said put f faults.Version a b m n = absurd b
one_fault w h name None (Some r) stream ms ns said put f faults.Security a b m n = absurd b
one_fault w h name None (Some r) stream ms ns said put f faults.Closed a b m n = absurd b
one_fault w h name (Some r) None stream ms ns said put (faults.Wire f) g a b m n =
    let e = ap (λ (t : Talk (Unit {0}) SessionFault). t.heard) (sym a.gets.handshake ∙ b.reads) in
    absurd (cc)
one_fault w h name (Some r) None stream ms ns said put faults.Version g a b m n = absurd a
one_fault w h name (Some r) None stream ms ns said put faults.Security g a b m n = absurd a
one_fault w h name (Some r) None stream ms ns said put faults.Closed g a b m n = absurd a
one_fault w h name (Some r) (Some q) stream ms ns said put (faults.Wire f) (faults.Wire g) a b m n =
    let both = sym a.gets.handshake ∙ b.gets.handshake in
    let e = ap (λ (t : Talk (Unit {0}) SessionFault). t.heard) both in
    let rests : a.gets.rest ≡ b.gets.rest = cc in
    let same = same_messages a.gets.rest b.gets.rest ms ns a.tail b.tail f g rests a.gets.gives (unless_other f (message_at a.tail ≡ Bad f) (λ e. m (ap faults.Wire e)) a.fault)
    b.gets.gives (unless_other g (message_at b.tail ≡ Bad g) (λ e. n (ap faults.Wire e)) b.fault) in
    (same.0, same.1, ap (λ (t : Talk (Unit {0}) SessionFault). t.said) both)
one_fault w h name (Some r) (Some q) stream ms ns said put (faults.Wire f) faults.Version a b m n = absurd b
one_fault w h name (Some r) (Some q) stream ms ns said put (faults.Wire f) faults.Security a b m n = absurd b
one_fault w h name (Some r) (Some q) stream ms ns said put (faults.Wire f) faults.Closed a b m n = absurd b
one_fault w h name (Some r) (Some q) stream ms ns said put faults.Version g a b m n = absurd a
one_fault w h name (Some r) (Some q) stream ms ns said put faults.Security g a b m n = absurd a
one_fault w h name (Some r) (Some q) stream ms ns said put faults.Closed g a b m n = absurd a
