-- What an FBS file says: a summary, or its first fault. A file says nothing of a recording's
-- format: its messages are read by the limits of format 2, and given in that format.
use Rattle.std.specs.Prelude.{◌≡◌, ◌≢◌, ◌⊎◌, ℕ, ◌-◌, List, [], ◌∷◌, ◌++◌, length, take, drop, map, slice_index, false}
use Rattle.terms.specs.Reading.{Got, More, Bad}
use Rattle.client_wire.specs.Stream.{Part, Reads, FaultOf}
use Rattle.terms.specs.declared.wire_fault.WireFault.{WireFault}
use Rattle.terms.specs.declared.format.Format.TheVariants.{Two}
use Rattle.rfb_wire.specs.Grammar.{message_at, message_limit, Message}
use Rattle.rfb_wire.specs.Host.{Host}
use Rattle.rfb_wire.specs.Stream.{given}
use Rattle.keyed_entries.specs.declared.entry.Stamped.{Stamped}
use Rattle.fbs_export.specs.declared.fault.FbsFault.{FbsFault}
use Rattle.fbs_export.specs.declared.fault.FbsFault.TheVariants as faults
use Rattle.fbs_export.specs.Blocks.{Block, Laid, data_of, times_of, stream_of, is_start}
use Rattle.fbs_export.specs.Opening.{Opening, opening_at}

-- messages, each with its time, and the number of bytes of an unfinished one
pub record Said : Type 0 where
  pub opening : Opening
  pub messages : List Stamped
  pub rest : ℕ

-- messages that are given at one time
abbrev pub at_time : ℕ → List Host → List Stamped
at_time t hosts = map (λ m. record { time = t; message = m }) hosts

-- Each recorded message has the time of its last byte, `times` being those of the bytes from the
-- first message on. What is read over isn't listed.
abbrev pub stamped : ℕ → ℕ → List ℕ → List (Part Message) → List Stamped
stamped width height times [] = []
stamped width height times (p ∷ parts) =
    at_time (slice_index times (length p.bytes - 1)) (given Two width height p.message p.bytes)
    ++ stamped width height (drop (length p.bytes) times) parts

-- The stream is an opening and messages, and waits for more; `times` are those of its bytes.
pub record Tells (stream times : List ℕ) (s : Said) : Type 0 where
  pub body : List ℕ
  pub opens : opening_at stream ≡ Got s.opening body
  pub parts : List (Part Message)
  pub rest : List ℕ
  pub reads : Reads (message_at (message_limit Two) s.opening.width s.opening.height) body parts rest
  pub waits : message_at (message_limit Two) s.opening.width s.opening.height rest ≡ More
  pub messages_are : s.messages ≡ stamped s.opening.width s.opening.height (drop (length stream - length body) times) parts
  pub rest_is : s.rest ≡ length rest

-- The file is whole blocks, and its stream tells this.
pub record IsSummary (file : List ℕ) (s : Said) : Type 0 where
  pub blocks : List (Part Block)
  pub laid : Laid file blocks []
  pub tells : Tells (data_of blocks) (times_of blocks) s

-- an opening, and the first fault of the messages after it
pub record MessageFault (stream : List ℕ) (f : WireFault) : Type 0 where
  pub opening : Opening
  pub body : List ℕ
  pub opens : opening_at stream ≡ Got opening body
  pub fault : FaultOf (message_at (message_limit Two) opening.width opening.height) body f

-- an opening, messages, and a rest, with no fault
pub record Waits (stream : List ℕ) : Type 0 where
  pub opening : Opening
  pub body : List ℕ
  pub opens : opening_at stream ≡ Got opening body
  pub parts : List (Part Message)
  pub rest : List ℕ
  pub reads : Reads (message_at (message_limit Two) opening.width opening.height) body parts rest
  pub waits : message_at (message_limit Two) opening.width opening.height rest ≡ More

-- A front of the file, also one that ends inside a block, has data of which P holds. So what is in
-- the data comes before whatever follows them in the file.
pub record InFront (file : List ℕ) (P : List ℕ → Type 0) : Type 0 where
  pub front : List ℕ
  pub following : List ℕ
  pub is : file ≡ front ++ following
  pub blocks : List (Part Block)
  pub tail : List ℕ
  pub laid : Laid front blocks tail
  pub holds : P (stream_of blocks tail)

-- the file ends inside a block, or before the opening is whole, and there is no fault in it
pub record IsCutShort (file : List ℕ) : Type 0 where
  pub blocks : List (Part Block)
  pub tail : List ℕ
  pub laid : Laid file blocks tail
  pub short : (opening_at (stream_of blocks tail) ≡ More) ⊎ ((tail ≢ []) × Waits (stream_of blocks tail))

-- what a fault says of the file; running out of memory and a reader that fails say nothing
abbrev pub IsFault : List ℕ → FbsFault → Type 0
IsFault file faults.NotFbs = is_start (take 12 file) ≡ false
IsFault file faults.Truncated = IsCutShort file
IsFault file faults.Version = InFront file (λ s. opening_at s ≡ Bad faults.Version)
IsFault file faults.Security = InFront file (λ s. opening_at s ≡ Bad faults.Security)
IsFault file faults.Format = InFront file (λ s. opening_at s ≡ Bad faults.Format)
IsFault file faults.Size = InFront file (λ s. opening_at s ≡ Bad faults.Size)
IsFault file (faults.Message f) = InFront file (λ s. MessageFault s f)
IsFault file faults.NoMemory = Unit {0}
IsFault file faults.Read = Unit {0}
