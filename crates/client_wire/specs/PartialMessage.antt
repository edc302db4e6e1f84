-- How far a reader is in a message: what comes next, and what the bytes from there on say, by the
-- grammar.
use Rattle.std.specs.Prelude.{◌≡◌, ℕ, ◌+◌, ◌*◌, ◌<◌, ◌≤◌, ◌^◌, List, ◌++◌, length, drop, max, vec_capacity}
use Rattle.terms.specs.Appending.{room_for}
use Rattle.terms.specs.Reading.{Reading, Got}
use Rattle.client_wire.specs.declared.message.ClientMessage.{ClientMessage}
use Rattle.terms.specs.declared.wire_fault.WireFault.{WireFault}
use Rattle.client_wire.specs.declared.partial_message.Stage.{Stage}
use Rattle.client_wire.specs.declared.partial_message.Stage.TheVariants as stages
use Rattle.client_wire.specs.declared.partial_message.Over.{Over}
use Rattle.client_wire.specs.declared.partial_message.Position.{Position}
use Rattle.client_wire.specs.declared.partial_message.Position.TheVariants as positions
use Rattle.client_wire.specs.declared.partial_message.AfterField.{AfterField}
use Rattle.client_wire.specs.declared.partial_message.AfterField.TheVariants as steps
use Rattle.client_wire.specs.declared.partial_message.PartialMessage.{PartialMessage}
use Rattle.client_wire.specs.Reader.{kept_limit, head_limit}
use Rattle.client_wire.specs.Grammar.{set_pixel_format_at, encodings_at, set_encodings_at, request_at, input_at, cut_text_at, message_at}

-- how many bytes the field has
abbrev pub wants_of : Stage → ℕ
wants_of stages.Type = 1
wants_of stages.PixelFormat = 19
wants_of stages.EncodingsHead = 3
wants_of (stages.Encodings count) = 4 * count
wants_of stages.Request = 9
wants_of stages.TextHead = 7

-- the offset in the message at which the field begins
abbrev pub start_of : Stage → ℕ
start_of stages.Type = 0
start_of (stages.Encodings count) = 4
start_of stage = 1

-- what the bytes from the stage's field on say
unfoldable pub resume : Stage → List ℕ → Reading ClientMessage WireFault
resume stages.Type bytes = message_at bytes
resume stages.PixelFormat bytes = set_pixel_format_at bytes
resume stages.EncodingsHead bytes = set_encodings_at bytes
resume (stages.Encodings count) bytes = encodings_at count bytes
resume stages.Request bytes = request_at bytes
resume stages.TextHead bytes = cut_text_at bytes

-- what the bytes that come next say
abbrev pub position_at : Position → List ℕ → Reading ClientMessage WireFault
position_at (positions.Field stage) bytes = resume stage bytes
position_at (positions.ReadOver o) bytes = input_at o.kind o.left bytes

-- what the bytes after a field say
abbrev pub follow : AfterField → List ℕ → Reading ClientMessage WireFault
follow (steps.Goes p) bytes = position_at p bytes
follow (steps.Whole m) bytes = Got m bytes

-- the start of a field that has bytes, or of some bytes that are read over, at this offset of the
-- message
abbrev pub BeginsAt : ℕ → Position → Type 0
BeginsAt at (positions.Field stage) = (start_of stage ≡ at) × (0 < wants_of stage) × (at + wants_of stage ≤ kept_limit)
BeginsAt at (positions.ReadOver o) = (o.passed ≡ 0) × (0 < o.left) × (o.left < 2 ^ 32) × (at ≤ head_limit)

abbrev pub StepBeginsAt : ℕ → AfterField → Type 0
StepBeginsAt at (steps.Goes p) = BeginsAt at p
StepBeginsAt at (steps.Whole m) = Unit {0}

-- The stage's field has begun. What the message says, whatever comes, is what the bytes from the
-- field on say.
pub record IsLinked (bytes : List ℕ) (stage : Stage) : Type 0 where
  pub link : (more : List ℕ) → message_at (bytes ++ more) ≡ resume stage (drop (start_of stage) bytes ++ more)
  pub begun : start_of stage ≤ length bytes

-- and it isn't whole
pub record IsInField (bytes : List ℕ) (stage : Stage) : Type 0 where
  pub linked : IsLinked bytes stage
  pub unfinished : length bytes < start_of stage + wants_of stage
  pub short : start_of stage + wants_of stage ≤ kept_limit

-- The reader stands in bytes that are read over. After what is kept and as many bytes as have
-- passed, whichever they were, those that are left come to the message's end.
pub record IsOver (bytes : List ℕ) (o : Over) : Type 0 where
  pub link : (skipped more : List ℕ) → length skipped ≡ o.passed
      → message_at ((bytes ++ skipped) ++ more) ≡ input_at o.kind o.left more
  pub some : 0 < o.left
  pub bound : o.passed + o.left < 2 ^ 32
  pub short : length bytes ≤ head_limit

-- the reader is at this position
abbrev pub IsAtPosition : List ℕ → Position → Type 0
IsAtPosition bytes (positions.Field stage) = IsInField bytes stage
IsAtPosition bytes (positions.ReadOver o) = IsOver bytes o

abbrev pub IsAt : PartialMessage → Type 0
IsAt p = IsAtPosition p.bytes.items p.position

-- how many bytes have passed
abbrev pub passed_in : Position → ℕ
passed_in (positions.Field stage) = 0
passed_in (positions.ReadOver o) = o.passed

-- With so many bytes more, no others are kept, and room was taken for no others.
pub record TakesFor (n : ℕ) (old new : PartialMessage) : Type 0 where
  pub kept : length new.bytes.items ≤ length old.bytes.items + n
  pub room : vec_capacity new.bytes ≤ max (vec_capacity old.bytes) (room_for (length old.bytes.items + n))
