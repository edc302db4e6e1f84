-- What the readers of a file stand for. `keeps` says which messages a tally stands for: those that
-- have their times, and those that wait.
use Rattle.std.specs.Prelude.{◌≡◌, ◌≢◌, ◌⊎◌, IfSome, ◌≤◌, ◌<◌, ℕ, ◌+◌, ◌-◌, List, [], ◌++◌, length, take, drop, Option, Some, None, MatchOption, Bool, true, false}
use Rattle.std.specs.Io.KnownBytes.{Consumes, IsAtEnd}
use Rattle.std.specs.List.{flat_map, AllByRecursion}
use Rattle.terms.specs.Number.{u32_at}
use Rattle.terms.specs.Reading.{Got, More, Bad}
use Rattle.client_wire.specs.Stream.{Part, bytes_of, IsPart, Goes}
use Rattle.terms.specs.declared.wire_fault.WireFault.TheVariants as wire
use Rattle.terms.specs.declared.wire_fault.WireFault.{WireFault}
use Rattle.terms.specs.declared.format.Format.TheVariants.{Two}
use Rattle.rfb_wire.specs.Grammar.{message_at, message_limit, Message}
use Rattle.rfb_wire.specs.Host.{Host}
use Rattle.rfb_wire.specs.Reader.{Reader}
use Rattle.rfb_wire.specs.Stream.{given}
use Rattle.keyed_entries.specs.declared.entry.Stamped.{Stamped}
use Rattle.fbs_export.specs.declared.fault.FbsFault.{FbsFault}
use Rattle.fbs_export.specs.declared.fault.FbsFault.TheVariants as faults
use Rattle.fbs_export.specs.declared.opening.Name.{Name}
use Rattle.fbs_export.specs.declared.opening.OpeningReader.{OpeningReader}
use Rattle.fbs_export.specs.declared.stream.Stream.{Stream}
use Rattle.fbs_export.specs.Blocks.{Block, Laid, data_of, times_of, is_start, padding_length}
use Rattle.fbs_export.specs.Opening.{opening_at, named, name_limit}
use Rattle.fbs_export.specs.Summary.{MessageFault, stamped}

-- what a fault in data says of the stream that they end
abbrev pub IsDataFault : List ℕ → FbsFault → Type 0
IsDataFault s faults.NotFbs = ⊥
IsDataFault s faults.Truncated = ⊥
IsDataFault s faults.Version = opening_at s ≡ Bad faults.Version
IsDataFault s faults.Security = opening_at s ≡ Bad faults.Security
IsDataFault s faults.Format = opening_at s ≡ Bad faults.Format
IsDataFault s faults.Size = opening_at s ≡ Bad faults.Size
IsDataFault s (faults.Message f) = MessageFault s f
IsDataFault s faults.NoMemory = Unit {0}
IsDataFault s faults.Read = ⊥

-- what holds of a fault that a reader of messages answers
abbrev pub OfMessage : FbsFault → (WireFault → Type 0) → Type 0
OfMessage faults.NotFbs P = ⊥
OfMessage faults.Truncated P = ⊥
OfMessage faults.Version P = ⊥
OfMessage faults.Security P = ⊥
OfMessage faults.Format P = ⊥
OfMessage faults.Size P = ⊥
OfMessage (faults.Message f) P = (f ≢ wire.NoMemory) × P f
OfMessage faults.NoMemory P = Unit {0}
OfMessage faults.Read P = ⊥

-- the stream is bytes in front of the name, which aren't whole
pub record IsInHead (kept s : List ℕ) : Type 0 where
  pub is : s ≡ kept
  pub short : length kept < 40
  pub waits : opening_at kept ≡ More

-- Some bytes of the name came, of which the first are kept, and the others are to come.
pub record IsInName (n : Name) (s : List ℕ) : Type 0 where
  pub came : List ℕ
  pub kept_is : n.kept.items ≡ take name_limit came
  pub counted : length came + n.left ≡ n.announced.count
  pub link : (more : List ℕ) → opening_at (s ++ more) ≡ named n.announced.size.width n.announced.size.height n.announced.count (came ++ more)

-- the opening isn't whole
abbrev pub IsInOpening : OpeningReader → List ℕ → Type 0
IsInOpening o s = MatchOption o.name (IsInHead o.head.items s) (λ n. IsInName n s × (0 < n.left))

-- the opening is whole at the end of the stream, whatever follows
abbrev pub IsOpened : ℕ → ℕ → List ℕ → List ℕ → Type 0
IsOpened w h name s = (more : List ℕ) → opening_at (s ++ more) ≡ Got (record { width = w; height = h; name = name }) more

abbrev pub name_in : Option Name → List ℕ
name_in None = []
name_in (Some n) = n.kept.items

-- The opening isn't whole, and the tally stands for no message; `times` are those of the bytes of
-- former blocks.
pub record Opens {T : Type 0} (keeps : T → List Stamped → List Host → Type 0) (c : Stream T) (times s : List ℕ) : Type 0 where
  pub opening : IsInOpening c.opening s
  pub nothing : keeps c.tally [] []
  pub before : length times ≤ length s

-- The opening is whole. The messages of former blocks are stamped; at the end of those blocks stood
-- an unfinished message, and with what came since, its messages wait and the reader, which is one
-- of format 2, stands for the rest. The tally stands for those messages.
pub record Hears {T : Type 0} (keeps : T → List Stamped → List Host → Type 0) (c : Stream T) (r : Reader) (times s : List ℕ) : Type 0 where
  pub format_is : r.format ≡ Two
  pub at : ℕ
  pub body : List ℕ
  pub opened : (more : List ℕ) → opening_at (s ++ more) ≡ Got (record { width = r.width; height = r.height; name = name_in c.opening.name }) (body ++ more)
  pub length_is : length s ≡ at + length body
  pub parts : List (Part Message)
  pub lead : List ℕ
  pub since : List ℕ
  pub each : AllByRecursion (IsPart (message_at (message_limit Two) r.width r.height)) parts
  pub lead_waits : message_at (message_limit Two) r.width r.height lead ≡ More
  pub body_is : body ≡ flat_map bytes_of parts ++ (lead ++ since)
  pub timed : length (flat_map bytes_of parts) + length lead ≡ length times - at
  pub waiting : List Host
  pub messages_are : keeps c.tally (stamped r.width r.height (drop at times) parts) waiting
  pub no_fault : r.fault ≡ None
  pub goes : Goes (message_at (message_limit Two) r.width r.height) (given Two r.width r.height) r.kept r.passed [] waiting (lead ++ since)

-- the reader of a stream, of which the bytes of former blocks have these times
abbrev pub Stands : {T : Type 0} → (T → List Stamped → List Host → Type 0) → Stream T → List ℕ → List ℕ → Type 0
Stands keeps c times s = MatchOption c.reader (Opens keeps c times s) (λ r. Hears keeps c r times s)

-- The reader of a file stands after these bytes of it: whole blocks, of whose data and times the
-- reader of the stream stands.
pub record IsBetween {T : Type 0} (keeps : T → List Stamped → List Host → Type 0) (c : Stream T) (seen : List ℕ) : Type 0 where
  pub blocks : List (Part Block)
  pub laid : Laid seen blocks []
  pub long : 12 ≤ length seen
  pub stands : Stands keeps c (times_of blocks) (data_of blocks)

-- so many bytes of data came, and the reader of the stream has them
pub record Came {T : Type 0} (keeps : T → List Stamped → List Host → Type 0) (old new : Option (List ℕ)) (c d : Stream T) (n : ℕ) : Type 0 where
  pub content : List ℕ
  pub consumed : Consumes old new content
  pub count : length content ≡ n
  pub heard : (times s : List ℕ) → Stands keeps c times s → Stands keeps d times (s ++ content)

-- the reader failed; or the file ends, with at least `least` bytes after here and fewer than `most`
abbrev pub IsStop : ℕ → ℕ → Option (List ℕ) → FbsFault → Type 0
IsStop least most rest f =
    (f ≡ faults.Read) ⊎ ((f ≡ faults.Truncated) × IfSome rest (λ bytes. (least ≤ length bytes) × (length bytes < most)))

-- what follows so many bytes of data came: padding, and this time
pub record IsTimed (old new : Option (List ℕ)) (n time : ℕ) : Type 0 where
  pub bytes : List ℕ
  pub consumed : Consumes old new bytes
  pub count : length bytes ≡ padding_length n + 4
  pub is : time ≡ u32_at (drop (padding_length n) bytes) 0

-- a block more came; or the file has ended
pub record Went {T : Type 0} (keeps : T → List Stamped → List Host → Type 0) (old new : Option (List ℕ)) (d : Stream T) (seen : List ℕ) (more : Bool) : Type 0 where
  pub bytes : List ℕ
  pub consumed : Consumes old new bytes
  pub between : IsBetween keeps d (seen ++ bytes)
  pub ended : more ≡ false → IsAtEnd new

-- the start of a file came
pub record Started (old new : Option (List ℕ)) : Type 0 where
  pub bytes : List ℕ
  pub consumed : Consumes old new bytes
  pub count : length bytes ≡ 12
  pub is : is_start bytes ≡ true
