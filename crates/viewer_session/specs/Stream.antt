-- What a session has made of a viewer's stream, in the words of the stream: the handshake and its
-- answers, and the messages after it (RFC 6143, sections 7.1 to 7.3 and 7.5).
use Rattle.std.specs.Prelude.{◌≡◌, ℕ, List, [], Option, Some, None}
use Rattle.terms.specs.Reading.{Got, More, Bad}
use Rattle.client_wire.specs.declared.message.ClientMessage.{ClientMessage}
use Rattle.terms.specs.declared.wire_fault.WireFault.{WireFault}
use Rattle.terms.specs.Fault.{UnlessMemory}
use Rattle.client_wire.specs.Grammar.{message_at}
use Rattle.client_wire.specs.Reader.{Reader}
use Rattle.client_wire.specs.Stream.{Gives, StandsFor, itself}
use Rattle.viewer_session.specs.declared.fault.SessionFault.{SessionFault}
use Rattle.viewer_session.specs.declared.fault.SessionFault.TheVariants as faults
use Rattle.viewer_session.specs.Handshake.{handshake_at}

-- The handshake isn't whole, and nothing in it is refused. It is answered with this, and there is no
-- message.
pub record IsGreeting (width height : ℕ) (name heard stream : List ℕ) (messages : List ClientMessage) (said : List ℕ) : Type 0 where
  pub heard_is : stream ≡ heard
  pub reads : handshake_at width height name stream ≡ record { said = said; heard = More }
  pub none : messages ≡ []

-- The handshake is whole, and is answered with this. The messages are those after it, before the
-- tail.
pub record Gets (width height : ℕ) (name stream : List ℕ) (messages : List ClientMessage) (said tail : List ℕ) : Type 0 where
  pub rest : List ℕ
  pub handshake : handshake_at width height name stream ≡ record { said = said; heard = Got tt rest }
  pub gives : Gives message_at itself [] messages rest tail

-- The reader stands for the tail, an unfinished message.
pub record IsListening (width height : ℕ) (name : List ℕ) (r : Reader) (stream : List ℕ) (messages : List ClientMessage) (said : List ℕ) : Type 0 where
  pub tail : List ℕ
  pub gets : Gets width height name stream messages said tail
  pub stands : StandsFor r.kept r.passed tail
  pub waits : message_at tail ≡ More

-- a stream in which nothing is refused
abbrev pub Stands : ℕ → ℕ → List ℕ → List ℕ → Option Reader → List ℕ → List ClientMessage → List ℕ → Type 0
Stands width height name heard None stream messages said = IsGreeting width height name heard stream messages said
Stands width height name heard (Some r) stream messages said = IsListening width height name r stream messages said

-- The stream is refused in the handshake,
pub record EndsInHandshake (width height : ℕ) (name stream : List ℕ) (messages : List ClientMessage) (said : List ℕ) (f : SessionFault) : Type 0 where
  pub reads : handshake_at width height name stream ≡ record { said = said; heard = Bad f }
  pub none : messages ≡ []

-- or at a message: unless memory ran out, the tail begins with a fault.
pub record EndsListening (width height : ℕ) (name stream : List ℕ) (messages : List ClientMessage) (said : List ℕ) (f : WireFault) : Type 0 where
  pub tail : List ℕ
  pub gets : Gets width height name stream messages said tail
  pub fault : UnlessMemory f (message_at tail ≡ Bad f)

-- After the handshake no fault is met but those of the wire.
abbrev pub Ends : ℕ → ℕ → List ℕ → Option Reader → List ℕ → List ClientMessage → List ℕ → SessionFault → Type 0
Ends width height name None stream messages said f = EndsInHandshake width height name stream messages said f
Ends width height name (Some r) stream messages said (faults.Wire f) = EndsListening width height name stream messages said f
Ends width height name (Some r) stream messages said faults.Version = ⊥
Ends width height name (Some r) stream messages said faults.Security = ⊥
Ends width height name (Some r) stream messages said faults.Closed = ⊥
