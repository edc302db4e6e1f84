-- What has come of a host's stream.
use Rattle.std.specs.Prelude.{◌≡◌, ◌≢◌, ℕ, List, [], ◌∷◌, ◌++◌, Option, None, Some, Bool, true, false}
use Rattle.rfb_wire.specs.Host.{Host}
use Rattle.host_session.specs.declared.fault.HostFault.{HostFault}
use Rattle.host_session.specs.Fault.{UnlessMemory}
use Rattle.host_session.specs.Session.{Session, IsAfter, AreGiven, EndsAfter, expected_of, size_of, told_by}
use Rattle.host_stream.specs.declared.end.HostEnd.{HostEnd}
use Rattle.host_stream.specs.declared.stream.Next.{Next}
use Rattle.host_stream.specs.declared.stream.Next.TheVariants.{Message, Read, Ended}

-- a session with the host, the messages that came and weren't given yet, the first one first, and how
-- the stream ended, once it has
pub record Stream : Type 0 where
  pub session : Session
  pub waiting : List Host
  pub end : Option HostEnd

-- The stream is refused after these messages. Unless memory ran out, with this fault.
pub record IsRefusedAfter (s : Session) (bytes : List ℕ) (messages : List Host) (sent : List ℕ) (f : HostFault) : Type 0 where
  pub given : AreGiven (expected_of s) s.kept s.reader bytes messages
  pub ends : UnlessMemory f (EndsAfter (expected_of s) s.kept s.reader bytes messages (sent ++ s.due) f)

abbrev pub Holds : Option HostFault → Session → List ℕ → List Host → List ℕ → Type 0
Holds None s bytes messages sent = IsAfter s bytes messages sent
Holds (Some f) s bytes messages sent = IsRefusedAfter s bytes messages sent f

-- These bytes have come of the stream, and of the recorded messages that they hold these were given:
-- those that wait are all the others, in their order.
pub record HasGiven (s : Stream) (bytes : List ℕ) (given : List Host) : Type 0 where
  pub sent : List ℕ
  pub holds : Holds s.session.fault s.session bytes (given ++ s.waiting) sent

-- A message is of the session's format, and of the size that the host has told.
abbrev pub IsOfHost : Session → Host → Type 0
IsOfHost s m = (m.format ≡ s.format) × (size_of (told_by s.reader s.kept) ≡ Some (record { width = m.width; height = m.height }))

-- A session still has its recording's format, and the size expected of its host, if one is.
abbrev pub IsForSame : Session → Session → Type 0
IsForSame old new = (new.format ≡ old.format) × (new.expected ≡ old.expected)

-- what is to be done next: what waits is given, whatever else there is; then the end is told, of the
-- stream or of the recorder; else the host is read from
abbrev next_if_none : Bool → Option HostEnd → Next
next_if_none true end = Ended
next_if_none false (Some end) = Ended
next_if_none false None = Read

abbrev next_of_waiting : List Host → Bool → Option HostEnd → Next
next_of_waiting [] is_stopped end = next_if_none is_stopped end
next_of_waiting (m ∷ ms) is_stopped end = Message m

abbrev pub next_of : Stream → Bool → Next
next_of s is_stopped = next_of_waiting s.waiting is_stopped s.end

-- what waits then
abbrev rest_of : List Host → List Host
rest_of [] = []
rest_of (m ∷ ms) = ms

abbrev pub after_next : Stream → Stream
after_next s = record { session = s.session; waiting = rest_of s.waiting; end = s.end }

-- More of the stream has come, and nothing was given: whatever had come, and was given.
abbrev pub HasRead : Stream → Stream → Type 0
HasRead old new = (bytes : List ℕ) (given : List Host) → HasGiven old bytes given → (more : List ℕ) × HasGiven new (bytes ++ more) given

-- More may have come, and just this message was given.
abbrev pub GivesNext : Stream → Stream → Host → Type 0
GivesNext old new message = (bytes : List ℕ) (given : List Host) → HasGiven old bytes given → (more : List ℕ) × HasGiven new (bytes ++ more) (given ++ message ∷ [])

-- More may have come, and all messages of it had been given: none waits.
abbrev pub GivesAll : Stream → Stream → Type 0
GivesAll old new = (new.waiting ≡ []) × HasRead old new
