-- A stream is one conversation.
use Rattle.std.proofs.Common.{◌≡◌, ℕ, List, ◌++◌, refl, sym, ap, ◌∙◌, subst}
use Rattle.std.specs.Prelude.{Option, None, Some}
use Rattle.terms.specs.declared.format.Format.{Format}
use Rattle.terms.specs.Reading.{Reading, More, Bad}
use Rattle.terms.specs.Talk.{Talk}
use Rattle.terms.specs.declared.wire_fault.WireFault.{WireFault}
use Rattle.client_wire.specs.Stream.{Reads, BeginsNone, given_of}
use Rattle.client_wire.proofs.Streams.{one_reading, waits_begins_none, fault_begins_none}
use Rattle.rfb_wire.specs.Grammar.{message_at, message_limit}
use Rattle.rfb_wire.specs.Host.{Host}
use Rattle.rfb_wire.specs.Stream.{given}
use Rattle.rfb_wire.proofs.Local.{message_local}
use Rattle.host_session.specs.declared.fault.HostFault.{HostFault}
use Rattle.host_session.specs.declared.fault.HostFault.TheVariants as faults
use Rattle.host_session.specs.Handshake.{Told, Refusal, handshake_at}
use Rattle.host_session.specs.Session.{requests_after}
use Rattle.host_session.specs.Conversation.{IsInMessages, IsConversation, IsRefusal}
use Rattle.host_session.specs.declared.expected.ExpectedScreen.{ExpectedScreen}

-- what two readings of a stream after its handshake share
record Same (ms ns : List Host) (t k : Told) (a b tail other : List ℕ) : Type 0 where
  pub told : t ≡ k
  pub messages : ms ≡ ns
  pub answers : a ≡ b
  pub tails : tail ≡ other

same_after : (expected : ExpectedScreen) (stream : List ℕ) (ms ns : List Host) (t k : Told) (a b tail other : List ℕ)
    → IsInMessages expected stream ms t a tail → IsInMessages expected stream ns k b other
    → BeginsNone (message_at (message_limit expected.format) t.width t.height) tail → BeginsNone (message_at (message_limit expected.format) k.width k.height) other
    → Same ms ns t k a b tail other
same_after expected stream ms ns t k a b tail other x y none empty =
    let e = sym x.handshake ∙ y.handshake in
    let heard = ap (λ (z : Talk Told Refusal). z.heard) e in
    let same : t ≡ k = cc in
    let rests : x.rest ≡ y.rest = cc in
    let reads : Reads (message_at (message_limit expected.format) t.width t.height) y.rest y.parts other =
    subst (λ (z : Told). Reads (message_at (message_limit expected.format) z.width z.height) y.rest y.parts other) (sym same) y.reads in
    let begins : BeginsNone (message_at (message_limit expected.format) t.width t.height) other =
    subst (λ (z : Told). BeginsNone (message_at (message_limit expected.format) z.width z.height) other) (sym same) empty in
    let one = one_reading (message_at (message_limit expected.format) t.width t.height) (message_local (message_limit expected.format) t.width t.height) x.rest y.rest x.parts y.parts tail other rests x.reads none reads begins in
    record {
      told = same;
      messages = x.messages_are ∙ ap (given_of (given expected.format t.width t.height)) one.0 ∙ ap (λ (z : Told). given_of (given expected.format z.width z.height) y.parts) same ∙ sym y.messages_are;
      answers = ap (λ (z : Talk Told Refusal). z.said) e;
      tails = one.1;
    }

-- the same is said
same_said : (ms ns : List Host) (t k : Told) (a b tail other said answered : List ℕ) → Same ms ns t k a b tail other
    → said ≡ a ++ requests_after t.width t.height ms → answered ≡ b ++ requests_after k.width k.height ns → said ≡ answered
same_said ms ns t k a b tail other said answered s x y =
    x ∙ ap (λ z. z ++ requests_after t.width t.height ms) s.answers ∙ ap (λ z. b ++ requests_after t.width t.height z) s.messages
    ∙ ap (λ (z : Told). b ++ requests_after z.width z.height ns) s.told ∙ sym y

-- the same is read of the tails
same_read : (format : Format) (ms ns : List Host) (t k : Told) (a b tail other : List ℕ) → Same ms ns t k a b tail other
    → message_at (message_limit format) t.width t.height tail ≡ message_at (message_limit format) k.width k.height other
same_read format ms ns t k a b tail other s =
    ap (message_at (message_limit format) t.width t.height) s.tails ∙ ap (λ (z : Told). message_at (message_limit format) z.width z.height other) s.told

waits_none : (format : Format) (t : Told) (tail : List ℕ) → message_at (message_limit format) t.width t.height tail ≡ More → BeginsNone (message_at (message_limit format) t.width t.height) tail
waits_none format t tail = waits_begins_none (message_at (message_limit format) t.width t.height) (message_local (message_limit format) t.width t.height) tail

fault_none : (format : Format) (t : Told) (tail : List ℕ) (w : WireFault) → message_at (message_limit format) t.width t.height tail ≡ Bad w → BeginsNone (message_at (message_limit format) t.width t.height) tail
fault_none format t tail w = fault_begins_none (message_at (message_limit format) t.width t.height) (message_local (message_limit format) t.width t.height) tail w

pub one_conversation : (expected : ExpectedScreen) (stream said answered : List ℕ) (told known : Option Told) (messages others : List Host)
    → IsConversation expected stream told messages said → IsConversation expected stream known others answered
    → (told ≡ known) × (messages ≡ others) × (said ≡ answered)
one_conversation expected stream said answered None None messages others x y =
    (refl, x.none ∙ sym y.none, ap (λ (z : Talk Told Refusal). z.said) (sym x.reads ∙ y.reads))
one_conversation expected stream said answered None (Some k) messages others x y =
    let e = ap (λ (z : Talk Told Refusal). z.heard) (sym x.reads ∙ y.following.handshake) in absurd (cc)
one_conversation expected stream said answered (Some t) None messages others x y =
    let e = ap (λ (z : Talk Told Refusal). z.heard) (sym x.following.handshake ∙ y.reads) in absurd (cc)
one_conversation expected stream said answered (Some t) (Some k) messages others x y =
    let s = same_after expected stream messages others t k x.answers y.answers x.tail y.tail x.following y.following (waits_none expected.format t x.tail x.waits) (waits_none expected.format k y.tail y.waits) in
    (ap (λ (z : Told). Some z) s.told, s.messages, same_said messages others t k x.answers y.answers x.tail y.tail said answered s x.said_is y.said_is)

pub not_refused : (expected : ExpectedScreen) (stream said answered reason : List ℕ) (told known : Option Told) (messages others : List Host) (f : HostFault)
    → IsConversation expected stream told messages said → IsRefusal expected stream known others answered f reason → ⊥
not_refused expected stream said answered reason None None messages others f x y =
    let e = ap (λ (z : Talk Told Refusal). z.heard) (sym x.reads ∙ y.reads) in absurd (cc)
not_refused expected stream said answered reason None (Some k) messages others f x y =
    let e = ap (λ (z : Talk Told Refusal). z.heard) (sym x.reads ∙ y.following.handshake) in absurd (cc)
not_refused expected stream said answered reason (Some t) None messages others f x y =
    let e = ap (λ (z : Talk Told Refusal). z.heard) (sym x.following.handshake ∙ y.reads) in absurd (cc)
not_refused expected stream said answered reason (Some t) (Some k) messages others f x y =
    let s = same_after expected stream messages others t k x.answers y.answers x.tail y.tail x.following y.following (waits_none expected.format t x.tail x.waits) (fault_none expected.format k y.tail y.wire y.fault) in
    let e = sym x.waits ∙ same_read expected.format messages others t k x.answers y.answers x.tail y.tail s ∙ y.fault in absurd (cc)

-- one fault
same_fault : (f g : HostFault) (w v : WireFault) → f ≡ faults.Wire w → g ≡ faults.Wire v → w ≡ v → f ≡ g
same_fault f g w v a b e = a ∙ ap (λ (z : WireFault). faults.Wire z) e ∙ sym b

same_refusal : (heard : Reading Told Refusal) (r s : Refusal) → heard ≡ Bad r → heard ≡ Bad s → r ≡ s
same_refusal heard r s e g = cc

pub one_refusal : (expected : ExpectedScreen) (stream said answered reason text : List ℕ) (told known : Option Told) (messages others : List Host) (f g : HostFault)
    → IsRefusal expected stream told messages said f reason → IsRefusal expected stream known others answered g text
    → (told ≡ known) × (messages ≡ others) × (said ≡ answered) × (f ≡ g) × (reason ≡ text)
one_refusal expected stream said answered reason text None None messages others f g x y =
    let e = sym x.reads ∙ y.reads in
    let r : Refusal = record { fault = f; reason = reason } in
    let s : Refusal = record { fault = g; reason = text } in
    let same : r ≡ s = same_refusal (handshake_at expected stream).heard r s (ap (λ (z : Talk Told Refusal). z.heard) x.reads) (ap (λ (z : Talk Told Refusal). z.heard) y.reads) in
    (refl, x.none ∙ sym y.none, ap (λ (z : Talk Told Refusal). z.said) e, ap (λ (z : Refusal). z.fault) same, ap (λ (z : Refusal). z.reason) same)
one_refusal expected stream said answered reason text None (Some k) messages others f g x y =
    let e = ap (λ (z : Talk Told Refusal). z.heard) (sym x.reads ∙ y.following.handshake) in absurd (cc)
one_refusal expected stream said answered reason text (Some t) None messages others f g x y =
    let e = ap (λ (z : Talk Told Refusal). z.heard) (sym x.following.handshake ∙ y.reads) in absurd (cc)
one_refusal expected stream said answered reason text (Some t) (Some k) messages others f g x y =
    let s = same_after expected stream messages others t k x.answers y.answers x.tail y.tail x.following y.following (fault_none expected.format t x.tail x.wire x.fault) (fault_none expected.format k y.tail y.wire y.fault) in
    let e = sym x.fault ∙ same_read expected.format messages others t k x.answers y.answers x.tail y.tail s ∙ y.fault in
    let wire : x.wire ≡ y.wire = cc in (
      ap (λ (z : Told). Some z) s.told,
      s.messages,
      same_said messages others t k x.answers y.answers x.tail y.tail said answered s x.said_is y.said_is,
      same_fault f g x.wire y.wire x.is y.is wire,
      x.no_reason ∙ sym y.no_reason,
    )

-- two sessions that expect the same
pub same_sessions : (expected other : ExpectedScreen) (stream said answered : List ℕ) (told known : Option Told) (messages others : List Host) → expected ≡ other
    → IsConversation expected stream told messages said → IsConversation other stream known others answered
    → (told ≡ known) × (messages ≡ others) × (said ≡ answered)
same_sessions expected other stream said answered told known messages others e x y =
    one_conversation expected stream said answered told known messages others x
    (subst (λ (z : ExpectedScreen). IsConversation z stream known others answered) (sym e) y)
