-- What a session with a host has done, in the words of the host's stream alone.
use Rattle.std.specs.Prelude.{◌≡◌, ℕ, List, [], ◌++◌, length, Option, None, Some}
use Rattle.terms.specs.Reading.{Got, More, Bad}
use Rattle.terms.specs.declared.wire_fault.WireFault.{WireFault}
use Rattle.client_wire.specs.Stream.{Part, Reads, given_of}
use Rattle.rfb_wire.specs.Grammar.{Message, message_at, message_limit}
use Rattle.rfb_wire.specs.Host.{Host}
use Rattle.rfb_wire.specs.Stream.{given}
use Rattle.host_session.specs.declared.fault.HostFault.{HostFault}
use Rattle.host_session.specs.declared.fault.HostFault.TheVariants as faults
use Rattle.host_session.specs.Handshake.{Told, handshake_at}
use Rattle.host_session.specs.Session.{requests_after}
use Rattle.host_session.specs.declared.expected.ExpectedScreen.{ExpectedScreen}

-- The handshake isn't whole, and nothing in it is refused: what was said is all that is due so far.
pub record IsInHandshake (expected : ExpectedScreen) (stream : List ℕ) (messages : List Host) (said : List ℕ) : Type 0 where
  pub reads : handshake_at expected stream ≡ record { said = said; heard = More }
  pub none : messages ≡ []

-- The handshake is whole: it was answered with these bytes, and this is told. Messages follow, and
-- a tail; those that are recorded are given.
pub record IsInMessages (expected : ExpectedScreen) (stream : List ℕ) (messages : List Host) (told : Told) (answers tail : List ℕ) : Type 0 where
  pub rest : List ℕ
  pub handshake : handshake_at expected stream ≡ record { said = answers; heard = Got told rest }
  pub parts : List (Part Message)
  pub reads : Reads (message_at (message_limit expected.format) told.width told.height) rest parts tail
  pub messages_are : messages ≡ given_of (given expected.format told.width told.height) parts

-- The tail is an unfinished message. What was said is the handshake's answers and a request for
-- each update.
pub record WaitsForMore (expected : ExpectedScreen) (stream : List ℕ) (messages : List Host) (said : List ℕ) (told : Told) : Type 0 where
  pub answers : List ℕ
  pub tail : List ℕ
  pub following : IsInMessages expected stream messages told answers tail
  pub waits : message_at (message_limit expected.format) told.width told.height tail ≡ More
  pub said_is : said ≡ answers ++ requests_after told.width told.height messages

-- A stream that isn't refused: what is told, once the handshake is whole, the messages that are
-- given, and what is said.
abbrev pub IsConversation : ExpectedScreen → List ℕ → Option Told → List Host → List ℕ → Type 0
IsConversation expected stream None messages said = IsInHandshake expected stream messages said
IsConversation expected stream (Some told) messages said = WaitsForMore expected stream messages said told

-- After the messages the stream has so many bytes, of an unfinished message.
pub record HasUnfinished (expected : ExpectedScreen) (stream : List ℕ) (messages : List Host) (told : Told) (count : ℕ) : Type 0 where
  pub answers : List ℕ
  pub tail : List ℕ
  pub following : IsInMessages expected stream messages told answers tail
  pub waits : message_at (message_limit expected.format) told.width told.height tail ≡ More
  pub count_is : count ≡ length tail

-- So many bytes of a stream that isn't refused are in no message yet; the handshake is in none.
abbrev pub Unfinished : ExpectedScreen → List ℕ → Option Told → List Host → ℕ → Type 0
Unfinished expected stream None messages count = count ≡ 0
Unfinished expected stream (Some told) messages count = HasUnfinished expected stream messages told count

-- A stream that is refused in the handshake, with the host's reason if it gives one,
pub record IsRefusedInHandshake (expected : ExpectedScreen) (stream : List ℕ) (messages : List Host) (said : List ℕ) (f : HostFault) (reason : List ℕ) : Type 0 where
  pub reads : handshake_at expected stream ≡ record { said = said; heard = Bad (record { fault = f; reason = reason }) }
  pub none : messages ≡ []

-- or at a message: the tail begins with a fault.
pub record IsRefusedInMessages (expected : ExpectedScreen) (stream : List ℕ) (messages : List Host) (said : List ℕ) (told : Told) (f : HostFault) (reason : List ℕ) : Type 0 where
  pub answers : List ℕ
  pub tail : List ℕ
  pub following : IsInMessages expected stream messages told answers tail
  pub wire : WireFault
  pub is : f ≡ faults.Wire wire
  pub fault : message_at (message_limit expected.format) told.width told.height tail ≡ Bad wire
  pub said_is : said ≡ answers ++ requests_after told.width told.height messages
  pub no_reason : reason ≡ []

-- What is told of a stream that is refused, the messages that are given, what is said, and the
-- fault.
abbrev pub IsRefusal : ExpectedScreen → List ℕ → Option Told → List Host → List ℕ → HostFault → List ℕ → Type 0
IsRefusal expected stream None messages said f reason = IsRefusedInHandshake expected stream messages said f reason
IsRefusal expected stream (Some told) messages said f reason = IsRefusedInMessages expected stream messages said told f reason

-- the messages are those of the stream, as far as they go
pub record AreMessages (expected : ExpectedScreen) (stream : List ℕ) (messages : List Host) (told : Told) : Type 0 where
  pub answers : List ℕ
  pub tail : List ℕ
  pub following : IsInMessages expected stream messages told answers tail

abbrev pub AreOfStream : ExpectedScreen → List ℕ → Option Told → List Host → Type 0
AreOfStream expected stream None messages = messages ≡ []
AreOfStream expected stream (Some told) messages = AreMessages expected stream messages told
