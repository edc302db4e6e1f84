-- What the frames of a viewer in a browser carry, and what they are answered.
use Rattle.std.specs.Prelude.{◌≡◌, ℕ, Bool, true, false, List, [], ◌∷◌, ◌++◌, drop, Option, None, Some, Result, Ok, Err}
use Rattle.websocket.specs.declared.error.Error.{Error}
use Rattle.websocket.specs.declared.error.Error.TheVariants as error
use Rattle.websocket.specs.declared.protocol.frame.codec.FrameStatus.{FrameStatus}
use Rattle.websocket.specs.declared.protocol.frame.codec.FrameStatus.TheVariants.{Partial, Complete}
use Rattle.websocket.specs.declared.protocol.frame.coding.CloseCode.{CloseCode}
use Rattle.websocket.specs.declared.protocol.frame.coding.CloseCode.TheVariants as code
use Rattle.websocket.specs.Content.{Content, text, binary, ping, pong, close}
use Rattle.websocket.specs.Connection.{Connection, Effect, Outgoing, Sends, read_step, whole_header}
use Rattle.websocket.specs.Frame.{encode_frame}
use Rattle.websocket.specs.declared.protocol.config.Role.TheVariants.{Server}
use Rattle.websocket.specs.Stream.{read_times}
use Rattle.web_frames.specs.declared.fault.Fault.{Fault}
use Rattle.web_frames.specs.declared.fault.Fault.TheVariants as fault
use Rattle.web_frames.specs.declared.heard.Heard.{Heard}

-- What contracts see of a reader: the connection between frames, the bytes of the frame that has
-- begun, and the fault that was met, if one was.
pub record Reader : Type 0 where
  pub conn : Connection
  pub rest : List ℕ
  pub fault : Option Fault

-- the connection is a server's
abbrev pub IsServers : Connection → Type 0
IsServers conn = conn.role ≡ Server

-- two connections are of the same side, with the same limits
abbrev pub IsSameSide : Connection → Connection → Type 0
IsSameSide conn other = (other.role ≡ conn.role) × (other.config ≡ conn.config)

-- the payload of a binary message
abbrev pub carried : Option Content → List ℕ
carried None = []
carried (Some (text _)) = []
carried (Some (binary bytes)) = bytes
carried (Some (ping _)) = []
carried (Some (pong _)) = []
carried (Some (close _)) = []

-- a text, and the byte that ends it: one that no UTF-8 has (RFC 3629, section 3)
abbrev pub said : Option Content → List ℕ
said None = []
said (Some (text bytes)) = bytes ++ 255 ∷ []
said (Some (binary _)) = []
said (Some (ping _)) = []
said (Some (pong _)) = []
said (Some (close _)) = []

-- of all that frames did, one after the other
abbrev pub payload_of : List Effect → List ℕ
payload_of [] = []
payload_of (effect ∷ effects) = carried effect.message ++ payload_of effects

abbrev pub words_of : List Effect → List ℕ
words_of [] = []
words_of (effect ∷ effects) = said effect.message ++ words_of effects

-- the frame of a server that answers a ping or a close; no key masks it
abbrev pub reply_bytes : Option Outgoing → List ℕ
reply_bytes None = []
reply_bytes (Some frame) = encode_frame (whole_header frame.opcode None) frame.payload

-- the frames that answer what frames ask for, in their order
abbrev pub replies_of : List Effect → List ℕ
replies_of [] = []
replies_of (effect ∷ effects) = reply_bytes effect.reply ++ replies_of effects

-- what the protocol's errors are to a viewer's connection
abbrev pub fault_of : Error → Fault
fault_of error.ConnectionClosed = fault.Closed
fault_of error.AlreadyClosed = fault.Closed
fault_of (error.Capacity _) = fault.TooLong
fault_of (error.Protocol _) = fault.Protocol
fault_of error.Utf8 = fault.NotUtf8
fault_of error.OutOfMemory = fault.NoMemory

-- the code that a connection is closed with for this (RFC 6455, section 7.4.1)
abbrev pub code_of : Fault → CloseCode
code_of fault.Closed = code.Normal
code_of fault.Protocol = code.Protocol
code_of fault.TooLong = code.Size
code_of fault.NotUtf8 = code.Invalid
code_of fault.NoMemory = code.Error

-- the frame that comes next is refused for this
abbrev pub Refuses : Result (FrameStatus (ℕ × Effect)) Error → Fault → Type 0
Refuses (Err e) f = f ≡ fault_of e
Refuses (Ok _) f = ⊥

-- what a message carries was heard
pub record HasHeard (message : Option Content) (old new : Heard) : Type 0 where
  pub payload_is : new.payload.items ≡ old.payload.items ++ carried message
  pub words_are : new.words.items ≡ old.words.items ++ said message

-- nothing more was heard
pub record IsSame (old new : Heard) : Type 0 where
  pub payload_is : new.payload.items ≡ old.payload.items
  pub words_are : new.words.items ≡ old.words.items
  pub replies_are : new.replies.items ≡ old.replies.items

-- The frames at the front of the input did this, and left this connection and this rest.
abbrev pub Reads : ℕ → Connection → List ℕ → List Effect → Connection → List ℕ → Type 0
Reads n conn input effects after rest = read_times n conn input ≡ record { effects = effects; end = Ok (after, rest) }

-- All that frames carried was heard, and what they are answered.
pub record Gives (effects : List Effect) (old new : Heard) : Type 0 where
  pub payload_is : new.payload.items ≡ old.payload.items ++ payload_of effects
  pub words_are : new.words.items ≡ old.words.items ++ words_of effects
  pub replies_are : new.replies.items ≡ old.replies.items ++ replies_of effects

-- A call took the frame at the front, or has to wait for it.
abbrev pub StepsTo : Bool → Result (FrameStatus (ℕ × Effect)) Error → Reader → Reader → Heard → Heard → Type 0
StepsTo true (Ok (Complete p)) old new heard heard' =
    (new.conn ≡ p.1.next) × (new.rest ≡ drop p.0 old.rest) × HasHeard p.1.message heard heard'
    × Sends p.1.next.role p.1.reply heard.replies.items heard'.replies.items
StepsTo true (Ok (Partial _)) old new heard heard' = ⊥
StepsTo true (Err _) old new heard heard' = ⊥
StepsTo false (Ok (Partial _)) old new heard heard' = (new.conn ≡ old.conn) × (new.rest ≡ old.rest) × IsSame heard heard'
StepsTo false (Ok (Complete p)) old new heard heard' = ⊥
StepsTo false (Err _) old new heard heard' = ⊥

-- Frames at the front of the input were read, of which all is given, and the next is refused.
pub record StopsAt (conn : Connection) (input : List ℕ) (old new : Heard) (f : Fault) : Type 0 where
  pub count : ℕ
  pub effects : List Effect
  pub after : Connection
  pub rest : List ℕ
  pub reads : Reads count conn input effects after rest
  pub gives : Gives effects old new
  pub refuses : Refuses (read_step after rest) f
