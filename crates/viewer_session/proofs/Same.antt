-- A viewer's stream has one reading.
use Rattle.std.proofs.Common.{◌≡◌, ℕ, List, [], ◌++◌, refl, sym, ap, ◌∙◌, subst}
use Rattle.std.specs.Prelude.{Option, Some, None}
use Rattle.terms.specs.Reading.{More, Bad}
use Rattle.terms.specs.Talk.{Talk}
use Rattle.client_wire.specs.declared.message.ClientMessage.{ClientMessage}
use Rattle.terms.specs.declared.wire_fault.WireFault.{WireFault}
use Rattle.terms.specs.declared.wire_fault.WireFault.TheVariants as wire
use Rattle.terms.specs.Fault.{UnlessMemory}
use Rattle.client_wire.specs.Grammar.{message_at}
use Rattle.client_wire.specs.Reader.{Reader}
use Rattle.client_wire.specs.Stream.{Gives, itself, given_of}
use Rattle.client_wire.proofs.Local.{message_local}
use Rattle.client_wire.proofs.Streams.{one_reading, waits_begins_none, fault_begins_none}
use Rattle.viewer_session.specs.declared.fault.SessionFault.{SessionFault}
use Rattle.viewer_session.specs.declared.fault.SessionFault.TheVariants as faults
use Rattle.viewer_session.specs.Stream.{Stands, Ends}
use Rattle.viewer_session.specs.Session.{Session, AreAlike, IsAfter, IsStopped}

same_messages : (rest after : List ℕ) (ms ns : List ClientMessage) (tail end : List ℕ) → rest ≡ after
    → Gives message_at itself [] ms rest tail → message_at tail ≡ More → Gives message_at itself [] ns after end → message_at end ≡ More → ms ≡ ns
same_messages rest after ms ns tail end is a waits b ends =
    let one = one_reading message_at message_local rest after a.parts b.parts tail end is
    a.reads (waits_begins_none message_at message_local tail waits) b.reads (waits_begins_none message_at message_local end ends) in
    a.given ∙ ap (given_of itself) one.0 ∙ sym b.given

pub same_stands : (w h : ℕ) (name heard other : List ℕ) (before after : Option Reader) (stream : List ℕ) (ms ns : List ClientMessage) (said put : List ℕ)
    → Stands w h name heard before stream ms said → Stands w h name other after stream ns put → (ms ≡ ns) × (said ≡ put)
same_stands w h name heard other None None stream ms ns said put a b = (a.none ∙ sym b.none, ap (λ (t : Talk (Unit {0}) SessionFault). t.said) (sym a.reads ∙ b.reads))
same_stands w h name heard other None (Some r) stream ms ns said put a b =
    let e = ap (λ (t : Talk (Unit {0}) SessionFault). t.heard) (sym a.reads ∙ b.gets.handshake) in
    absurd (cc)
same_stands w h name heard other (Some r) None stream ms ns said put a b =
    let e = ap (λ (t : Talk (Unit {0}) SessionFault). t.heard) (sym a.gets.handshake ∙ b.reads) in
    absurd (cc)
same_stands w h name heard other (Some r) (Some q) stream ms ns said put a b =
    let both = sym a.gets.handshake ∙ b.gets.handshake in
    let e = ap (λ (t : Talk (Unit {0}) SessionFault). t.heard) both in
    let rests : a.gets.rest ≡ b.gets.rest = cc in
    (same_messages a.gets.rest b.gets.rest ms ns a.tail b.tail rests a.gets.gives a.waits b.gets.gives b.waits, ap (λ (t : Talk (Unit {0}) SessionFault). t.said) both)

-- a fault that isn't there is that memory ran out
no_fault_there : (f : WireFault) (end : List ℕ) → UnlessMemory f (message_at end ≡ Bad f) → (message_at end ≡ Bad f → ⊥) → faults.Wire f ≡ faults.Wire wire.NoMemory
no_fault_there wire.UnknownType end is never = absurd (never is)
no_fault_there wire.OutsideScreen end is never = absurd (never is)
no_fault_there (wire.Encoding n) end is never = absurd (never is)
no_fault_there wire.TooLong end is never = absurd (never is)
no_fault_there wire.BadRre end is never = absurd (never is)
no_fault_there wire.BadHextile end is never = absurd (never is)
no_fault_there wire.SourceOutside end is never = absurd (never is)
no_fault_there (wire.BadFormat e) end is never = absurd (never is)
no_fault_there wire.NoMemory end is never = refl

waits_or_ends : (rest after : List ℕ) (ms ns : List ClientMessage) (tail end : List ℕ) (f : WireFault) → rest ≡ after
    → Gives message_at itself [] ms rest tail → message_at tail ≡ More → Gives message_at itself [] ns after end → message_at end ≡ Bad f → ⊥
waits_or_ends rest after ms ns tail end f is a waits b fault =
    let one = one_reading message_at message_local rest after a.parts b.parts tail end is
    a.reads (waits_begins_none message_at message_local tail waits) b.reads (fault_begins_none message_at message_local end f fault) in
    let both = sym waits ∙ ap message_at one.1 ∙ fault in
    absurd (cc)

pub stands_or_ends : (w h : ℕ) (name heard : List ℕ) (before after : Option Reader) (stream : List ℕ) (ms ns : List ClientMessage) (said put : List ℕ) (f : SessionFault)
    → Stands w h name heard before stream ms said → Ends w h name after stream ns put f → f ≡ faults.Wire wire.NoMemory
stands_or_ends w h name heard None None stream ms ns said put f a b =
    let e = ap (λ (t : Talk (Unit {0}) SessionFault). t.heard) (sym a.reads ∙ b.reads) in
    absurd (cc)
stands_or_ends w h name heard None (Some r) stream ms ns said put (faults.Wire f) a b =
    let e = ap (λ (t : Talk (Unit {0}) SessionFault). t.heard) (sym a.reads ∙ b.gets.handshake) in
    absurd (cc)
stands_or_ends w h name heard None (Some r) stream ms ns said put faults.Version a b = absurd b
stands_or_ends w h name heard None (Some r) stream ms ns said put faults.Security a b = absurd b
stands_or_ends w h name heard None (Some r) stream ms ns said put faults.Closed a b = absurd b
stands_or_ends w h name heard (Some r) None stream ms ns said put f a b =
    let e = ap (λ (t : Talk (Unit {0}) SessionFault). t.heard) (sym a.gets.handshake ∙ b.reads) in
    absurd (cc)
stands_or_ends w h name heard (Some r) (Some q) stream ms ns said put (faults.Wire f) a b =
    let e = ap (λ (t : Talk (Unit {0}) SessionFault). t.heard) (sym a.gets.handshake ∙ b.gets.handshake) in
    let rests : a.gets.rest ≡ b.gets.rest = cc in
    no_fault_there f b.tail b.fault (waits_or_ends a.gets.rest b.gets.rest ms ns a.tail b.tail f rests a.gets.gives a.waits b.gets.gives)
stands_or_ends w h name heard (Some r) (Some q) stream ms ns said put faults.Version a b = absurd b
stands_or_ends w h name heard (Some r) (Some q) stream ms ns said put faults.Security a b = absurd b
stands_or_ends w h name heard (Some r) (Some q) stream ms ns said put faults.Closed a b = absurd b

-- over sessions
pub alike_after : (s t : Session) (stream put : List ℕ) (others : List ClientMessage) → AreAlike s t → IsAfter t stream others put
    → Stands s.width s.height s.name t.heard t.reader stream others (put ++ t.due)
alike_after s t stream put others same is =
    subst (λ (z : ℕ). Stands z s.height s.name t.heard t.reader stream others (put ++ t.due)) (sym same.width)
    (subst (λ (z : ℕ). Stands t.width z s.name t.heard t.reader stream others (put ++ t.due)) (sym same.height)
    (subst (λ (z : List ℕ). Stands t.width t.height z t.heard t.reader stream others (put ++ t.due)) (sym same.name) is))

pub alike_stopped : (s t : Session) (stream put : List ℕ) (others : List ClientMessage) (f : SessionFault) → AreAlike s t → IsStopped t stream others put f
    → Ends s.width s.height s.name t.reader stream others (put ++ t.due) f
alike_stopped s t stream put others f same is =
    subst (λ (z : ℕ). Ends z s.height s.name t.reader stream others (put ++ t.due) f) (sym same.width)
    (subst (λ (z : ℕ). Ends t.width z s.name t.reader stream others (put ++ t.due) f) (sym same.height)
    (subst (λ (z : List ℕ). Ends t.width t.height z t.reader stream others (put ++ t.due) f) (sym same.name) is))
