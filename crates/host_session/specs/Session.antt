-- A session with a host: what contracts see of it, and what it has made of the host's stream. The
-- screen and the messages are judged by the limits of the recording's format.
use Rattle.std.specs.Prelude.{◌≡◌, ℕ, ◌+◌, List, [], ◌++◌, length, true, Option, None, Some, if◌then◌else◌}
use Rattle.std.specs.List.{flat_map}
use Rattle.terms.specs.declared.format.Format.{Format}
use Rattle.terms.specs.Area.{whole_area}
use Rattle.terms.specs.Reading.{More, Bad}
use Rattle.terms.specs.declared.wire_fault.WireFault.{WireFault}
use Rattle.client_wire.specs.Stream.{Gives, StandsFor}
use Rattle.client_wire.specs.Written.{request_bytes}
use Rattle.rfb_wire.specs.Grammar.{message_at, message_limit}
use Rattle.rfb_wire.specs.Host.{Host, is_update}
use Rattle.rfb_wire.specs.Reader.{Reader}
use Rattle.rfb_wire.specs.Stream.{given}
use Rattle.host_session.specs.declared.expected.ExpectedScreen.{ExpectedScreen}
use Rattle.host_session.specs.declared.fault.HostFault.{HostFault}
use Rattle.host_session.specs.declared.fault.HostFault.TheVariants as faults
use Rattle.host_session.specs.declared.stage.Stage.TheVariants as stages
use Rattle.host_session.specs.declared.stage.Position.{Position}
use Rattle.host_session.specs.declared.stage.Position.TheVariants as positions
use Rattle.host_session.specs.Fault.{UnlessMemory}
use Rattle.host_session.specs.Handshake.{Told, handshake_at}
use Rattle.host_session.specs.Stage.{IsUnfinished, Leads, Ends, Fails, reason_of}
use Rattle.host_session.specs.Take.{told_at}
use Rattle.terms.specs.declared.screen_size.ScreenSize.{ScreenSize}

-- an update is answered with a request for what has changed on the whole screen
abbrev pub request_after : ℕ → ℕ → Host → List ℕ
request_after width height m = if is_update m.bytes then request_bytes true (whole_area width height) else []

abbrev pub requests_after : ℕ → ℕ → List Host → List ℕ
requests_after width height messages = flat_map (request_after width height) messages

-- What contracts see of a session: the format of the recording; the size that is expected, if one
-- is; in the handshake what comes next; what is kept of it and, after the handshake, the host's
-- name; after the handshake, the reader of its messages; the bytes that are due to the host; and
-- the fault that was met, if one was.
pub record Session : Type 0 where
  pub format : Format
  pub expected : Option ScreenSize
  pub position : Position
  pub kept : List ℕ
  pub reader : Option Reader
  pub due : List ℕ
  pub fault : Option HostFault

-- what is expected of its host's screen
abbrev pub expected_of : Session → ExpectedScreen
expected_of s = record { format = s.format; size = s.expected }

-- the start of a stream
abbrev pub start : Position
start = positions.Field stages.Version

-- The handshake isn't whole: the stream so far, answered with this, leads to the session's
-- position.
pub record IsHandshake (expected : ExpectedScreen) (position : Position) (kept stream : List ℕ) (messages : List Host) (said : List ℕ) : Type 0 where
  pub leads : Leads expected start [] stream said position kept
  -- nothing is refused so far, and all that is due was said
  pub reads : handshake_at expected stream ≡ record { said = said; heard = More }
  pub none : messages ≡ []

-- The handshake is whole, and the messages are given of those that follow it, before the tail.
pub record Gets (expected : ExpectedScreen) (width height : ℕ) (name stream : List ℕ) (messages : List Host) (tail : List ℕ) : Type 0 where
  pub front : List ℕ
  pub rest : List ℕ
  pub stream_is : stream ≡ front ++ rest
  pub answers : List ℕ
  pub ends : Ends expected start [] front answers (told_at width height name)
  pub gives : Gives (message_at (message_limit expected.format) width height) (given expected.format width height) [] messages rest tail

-- What was said is the handshake's answers and a request for each update.
pub record Follows (expected : ExpectedScreen) (width height : ℕ) (name stream : List ℕ) (messages : List Host) (said tail : List ℕ) : Type 0 where
  pub gets : Gets expected width height name stream messages tail
  pub said_is : said ≡ gets.answers ++ requests_after width height messages

-- the reader, which is of the same format, stands for the tail, an unfinished message
pub record IsListening (expected : ExpectedScreen) (name : List ℕ) (r : Reader) (stream : List ℕ) (messages : List Host) (said : List ℕ) : Type 0 where
  pub of_format : r.format ≡ expected.format
  pub tail : List ℕ
  pub follows : Follows expected r.width r.height name stream messages said tail
  pub stands : StandsFor r.kept r.passed tail
  pub waits : message_at (message_limit expected.format) r.width r.height tail ≡ More

abbrev pub Stands : ExpectedScreen → Position → List ℕ → Option Reader → List ℕ → List Host → List ℕ → Type 0
Stands expected position kept None stream messages said = IsHandshake expected position kept stream messages said
Stands expected position kept (Some r) stream messages said = IsListening expected kept r stream messages said

-- A session that has got this stream, has given these messages, and has put out these bytes.
-- Nothing in the stream is refused.
abbrev pub IsAfter : Session → List ℕ → List Host → List ℕ → Type 0
IsAfter s stream messages sent = Stands (expected_of s) s.position s.kept s.reader stream messages (sent ++ s.due)

-- The stream ends at a fault in the handshake,
pub record EndsInHandshake (expected : ExpectedScreen) (kept stream : List ℕ) (messages : List Host) (said : List ℕ) (f : HostFault) : Type 0 where
  pub fails : Fails expected start [] stream said f kept
  pub none : messages ≡ []

-- or at a fault in the messages.
pub record EndsListening (expected : ExpectedScreen) (name : List ℕ) (r : Reader) (stream : List ℕ) (messages : List Host) (said : List ℕ) (f : WireFault) : Type 0 where
  pub tail : List ℕ
  pub follows : Follows expected r.width r.height name stream messages said tail
  pub fault : message_at (message_limit expected.format) r.width r.height tail ≡ Bad f

-- After the handshake no fault is met but those of the wire.
abbrev pub EndsAfter : ExpectedScreen → List ℕ → Option Reader → List ℕ → List Host → List ℕ → HostFault → Type 0
EndsAfter expected kept None stream messages said f = EndsInHandshake expected kept stream messages said f
EndsAfter expected kept (Some r) stream messages said (faults.Wire f) = EndsListening expected kept r stream messages said f
EndsAfter expected kept (Some r) stream messages said faults.Version = ⊥
EndsAfter expected kept (Some r) stream messages said faults.NoneNotOffered = ⊥
EndsAfter expected kept (Some r) stream messages said faults.Failed = ⊥
EndsAfter expected kept (Some r) stream messages said faults.SizeDiffers = ⊥
EndsAfter expected kept (Some r) stream messages said faults.TooLarge = ⊥

-- The messages are given of the stream, whatever follows them.
pub record GetsSome (expected : ExpectedScreen) (name : List ℕ) (r : Reader) (stream : List ℕ) (messages : List Host) : Type 0 where
  pub tail : List ℕ
  pub gets : Gets expected r.width r.height name stream messages tail

abbrev pub AreGiven : ExpectedScreen → List ℕ → Option Reader → List ℕ → List Host → Type 0
AreGiven expected kept None stream messages = messages ≡ []
AreGiven expected kept (Some r) stream messages = GetsSome expected kept r stream messages

-- what holds between calls of a session that goes on
abbrev pub IsGoing : Option Reader → Position → List ℕ → Type 0
IsGoing None position kept = IsUnfinished position kept
IsGoing (Some r) position kept = r.fault ≡ None

abbrev pub IsSound : Option HostFault → Option Reader → Position → List ℕ → Type 0
IsSound None reader position kept = IsGoing reader position kept
IsSound (Some f) reader position kept = Unit {0}

-- What feed gives: messages after those that there were. The session has got the piece too.
pub record Fed (s : Session) (stream : List ℕ) (messages : List Host) (sent : List ℕ) (old new : List Host) : Type 0 where
  pub more : List Host
  pub out : new ≡ old ++ more
  pub after : IsAfter s stream (messages ++ more) sent

-- Or it is stopped, and gives the messages before that offset. Unless memory ran out, the stream is
-- refused there, with this fault.
pub record Stopped (s : Session) (stream : List ℕ) (messages : List Host) (sent : List ℕ) (f : HostFault) (old new : List Host) : Type 0 where
  pub more : List Host
  pub out : new ≡ old ++ more
  pub given : AreGiven (expected_of s) s.kept s.reader stream (messages ++ more)
  pub ends : UnlessMemory f (EndsAfter (expected_of s) s.kept s.reader stream (messages ++ more) (sent ++ s.due) f)

-- what the host has told of its screen, once the handshake is whole
abbrev pub told_by : Option Reader → List ℕ → Option Told
told_by None kept = None
told_by (Some r) kept = Some (told_at r.width r.height kept)

-- how many bytes have come of an unfinished message; in the handshake there are none
abbrev pub unfinished_in : Option Reader → ℕ
unfinished_in None = 0
unfinished_in (Some r) = length r.kept + r.passed

-- the screen's size, and its name, if they are told
abbrev pub size_of : Option Told → Option ScreenSize
size_of None = None
size_of (Some told) = Some (record { width = told.width; height = told.height })

abbrev pub name_of : Option Told → List ℕ
name_of None = []
name_of (Some told) = told.name

-- the reason is there once the host has refused
abbrev pub reason_in : Option HostFault → List ℕ → List ℕ
reason_in None kept = []
reason_in (Some f) kept = reason_of f kept
