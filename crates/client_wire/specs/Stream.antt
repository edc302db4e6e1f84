-- A stream of messages, and what a reader that gets it in pieces has made of it. `read` says which
-- message bytes begin with, and `give` what is given of a message and its bytes.
use Rattle.std.specs.Prelude.{◌≡◌, ℕ, List, [], ◌∷◌, ◌++◌, length}
use Rattle.std.specs.List.{flat_map, AllByRecursion}
use Rattle.terms.specs.Reading.{Reading, Got, More, Bad}
use Rattle.terms.specs.declared.wire_fault.WireFault.{WireFault}
use Rattle.terms.specs.Fault.{UnlessMemory}

-- a message in a stream, and its bytes
pub record Part (M : Type 0) : Type 0 where
  pub message : M
  pub bytes : List ℕ

abbrev pub bytes_of : {M : Type 0} → Part M → List ℕ
bytes_of p = p.bytes

-- the bytes are just that message
abbrev pub IsPart : {M : Type 0} → (List ℕ → Reading M WireFault) → Part M → Type 0
IsPart read p = read p.bytes ≡ Got p.message []

-- the stream begins with these messages, and a rest follows
pub record Reads {M : Type 0} (read : List ℕ → Reading M WireFault) (stream : List ℕ) (parts : List (Part M)) (rest : List ℕ) : Type 0 where
  pub each : AllByRecursion (IsPart read) parts
  pub stream_is : stream ≡ flat_map bytes_of parts ++ rest

-- no whole message begins these bytes
abbrev pub BeginsNone : {M : Type 0} → (List ℕ → Reading M WireFault) → List ℕ → Type 0
BeginsNone {M} read bytes = (p : Part M) → (more : List ℕ) → IsPart read p → bytes ≡ p.bytes ++ more → ⊥

-- the stream's first fault: messages, and then a rest that begins with a fault
pub record FaultOf {M : Type 0} (read : List ℕ → Reading M WireFault) (stream : List ℕ) (f : WireFault) : Type 0 where
  pub parts : List (Part M)
  pub rest : List ℕ
  pub reads : Reads read stream parts rest
  pub fault : read rest ≡ Bad f

-- What a reader stands for: the bytes of an unfinished message, of which it keeps some and counts
-- the others, which are read over.
pub record StandsFor (kept : List ℕ) (passed : ℕ) (rest : List ℕ) : Type 0 where
  pub skipped : List ℕ
  pub count : length skipped ≡ passed
  pub is : rest ≡ kept ++ skipped

-- what is given of messages
abbrev pub given_of : {M G : Type 0} → (M → List ℕ → List G) → List (Part M) → List G
given_of give parts = flat_map (λ p. give p.message p.bytes) parts

-- what new has after old is given of the messages that the stream begins with
pub record Gives {M G : Type 0} (read : List ℕ → Reading M WireFault) (give : M → List ℕ → List G) (old new : List G) (stream rest : List ℕ) : Type 0 where
  pub parts : List (Part M)
  pub given : new ≡ old ++ given_of give parts
  pub reads : Reads read stream parts rest

-- The stream's messages are given, and a reader that keeps these bytes, and has read over so many,
-- stands for the rest.
pub record Moves {M G : Type 0} (read : List ℕ → Reading M WireFault) (give : M → List ℕ → List G) (kept : List ℕ) (passed : ℕ) (old new : List G) (stream : List ℕ) : Type 0 where
  pub rest : List ℕ
  pub gives : Gives read give old new stream rest
  pub stands : StandsFor kept passed rest

-- The stream's messages are given, and the reader stands for the rest, which is an unfinished
-- message with no fault so far.
pub record Goes {M G : Type 0} (read : List ℕ → Reading M WireFault) (give : M → List ℕ → List G) (kept : List ℕ) (passed : ℕ) (old new : List G) (stream : List ℕ) : Type 0 where
  pub rest : List ℕ
  pub gives : Gives read give old new stream rest
  pub stands : StandsFor kept passed rest
  pub waits : read rest ≡ More

-- The messages before the offset at which a reader stops are given. Unless memory ran out there, a
-- fault of the stream stands at that offset.
pub record Stops {M G : Type 0} (read : List ℕ → Reading M WireFault) (give : M → List ℕ → List G) (f : WireFault) (old new : List G) (stream : List ℕ) : Type 0 where
  pub rest : List ℕ
  pub gives : Gives read give old new stream rest
  pub fault : UnlessMemory f (read rest ≡ Bad f)

-- all that stood in a list stays in front of what was appended
pub record Grows {G : Type 0} (old new : List G) : Type 0 where
  pub more : List G
  pub new_is : new ≡ old ++ more

-- of a message, itself is given, without its bytes
abbrev pub itself : {M : Type 0} → M → List ℕ → List M
itself m bytes = m ∷ []
