-- How far a reader is in a message: which field comes next, and what the bytes from that field on
-- say, by the grammar.
use Rattle.std.specs.Prelude.{◌≡◌, ℕ, suc, ◌+◌, ◌-◌, ◌<◌, ◌≤◌, List, [], ◌∷◌, ◌++◌, length, drop, ◌^◌, MatchOption, slice_index, max, vec_capacity, Option, Some, None, nat_eq, if◌then◌else◌}
use Rattle.std.specs.Option.{option_to_list}
use Rattle.pixel_format.specs.Format.{host_format}
use Rattle.terms.specs.Appending.{room_for}
use Rattle.terms.specs.Reading.{Reading, Got, ◌>>=◌, field}
use Rattle.terms.specs.Number.{u16_at}
use Rattle.rect_data.specs.Judging as judging
use Rattle.rfb_wire.specs.declared.message.Rectangle.{Rectangle}
use Rattle.terms.specs.declared.wire_fault.WireFault.{WireFault}
use Rattle.rfb_wire.specs.declared.partial_message.Begun.{Begun}
use Rattle.rfb_wire.specs.declared.partial_message.Stage.{Stage}
use Rattle.rfb_wire.specs.declared.partial_message.Stage.TheVariants as stages
use Rattle.rfb_wire.specs.declared.partial_message.Next.{Next}
use Rattle.rfb_wire.specs.declared.partial_message.Next.TheVariants as nexts
use Rattle.rfb_wire.specs.declared.partial_message.Ending.{Ending}
use Rattle.rfb_wire.specs.declared.partial_message.Ending.TheVariants as endings
use Rattle.rfb_wire.specs.declared.partial_message.Over.{Over}
use Rattle.rfb_wire.specs.declared.partial_message.AfterField.{AfterField}
use Rattle.rfb_wire.specs.declared.partial_message.PartialMessage.{PartialMessage}
use Rattle.rfb_wire.specs.Grammar.{Message, Recorded, ReadOver, rectangles_at, update_at, other_at, color_map_at, text_at, text_data_at, read_over, message_at, text_limit}
use Rattle.rfb_wire.specs.Reader.{head_limit}

-- how many bytes the field has
abbrev pub wants_of : Stage → ℕ
wants_of stages.Type = 1
wants_of stages.UpdateHead = 3
wants_of stages.ColorMapHead = 5
wants_of stages.TextHead = 7
wants_of (stages.TextData n) = n
wants_of (stages.RectangleHead at others) = 12
wants_of (stages.Data at begun next others) = judging.wants_of host_format next

-- the offset in the message at which the field begins
abbrev pub start_of : Stage → ℕ
start_of stages.Type = 0
start_of stages.UpdateHead = 1
start_of stages.ColorMapHead = 1
start_of stages.TextHead = 1
start_of (stages.TextData n) = 8
start_of (stages.RectangleHead at others) = at
start_of (stages.Data at begun next others) = at

-- a message, its limit apart
unfoldable pub unlimited_at : ℕ → ℕ → List ℕ → Reading Message WireFault
unlimited_at width height bytes = field 1 bytes >>= λ type rest.
    if nat_eq (slice_index type 0) 0 then update_at width height bytes else other_at (slice_index type 0) rest

-- a message that has these rectangles in front
abbrev pub put : List Rectangle → Message → Message
put done (Recorded rs) = Recorded (done ++ rs)
put done ReadOver = ReadOver

abbrev pub following : List Rectangle → Reading Message WireFault → Reading Message WireFault
following done r = r >>= λ m rest. Got (put done m) rest

-- so many rectangles, up to the message's end
unfoldable pub others_at : ℕ → ℕ → ℕ → ℕ → List ℕ → Reading Message WireFault
others_at width height count at bytes =
    rectangles_at width height count at bytes >>= λ others after. Got (Recorded others) after

-- the rectangle whose data end at this offset
abbrev pub ended : Begun → ℕ → Rectangle
ended b end = record { area = b.area; encoding = b.encoding; start = b.start; end = end }

-- After the data of a rectangle, as they are judged, others follow. All the bytes reach up to this
-- offset of the message.
abbrev pub after_data : ℕ → ℕ → Begun → ℕ → ℕ → Reading Unit WireFault → Reading Message WireFault
after_data width height b others reach r = r >>= λ content rest.
    following (ended b (reach - length rest) ∷ []) (others_at width height others (reach - length rest) rest)

-- what the bytes from the stage's field on say
unfoldable pub resume : ℕ → ℕ → Stage → List ℕ → Reading Message WireFault
resume width height stages.Type bytes = unlimited_at width height bytes
resume width height stages.UpdateHead bytes = field 3 bytes >>= λ f rest. others_at width height (u16_at f 1) 4 rest
resume width height stages.ColorMapHead bytes = color_map_at bytes
resume width height stages.TextHead bytes = text_at bytes
resume width height (stages.TextData n) bytes = text_data_at n bytes
resume width height (stages.RectangleHead at others) bytes = others_at width height (suc others) at bytes
resume width height (stages.Data at begun next others) bytes =
    after_data width height begun others (at + length bytes) (judging.resume host_format width height next bytes)

-- what the bytes after a field say
unfoldable pub go_on : ℕ → ℕ → Next → List ℕ → Reading Message WireFault
go_on width height (nexts.Field stage) bytes = resume width height stage bytes
go_on width height nexts.End bytes = Got (Recorded []) bytes
go_on width height (nexts.ReadOver n) bytes = read_over n bytes

abbrev pub step_on : ℕ → ℕ → AfterField → List ℕ → Reading Message WireFault
step_on width height step bytes = following (option_to_list step.rectangle) (go_on width height step.next bytes)

-- a field that has bytes, and that begins at this offset
pub record BeginsAt (at : ℕ) (stage : Stage) : Type 0 where
  pub start : start_of stage ≡ at
  pub some : 0 < wants_of stage

abbrev pub NextBegins : ℕ → Next → Type 0
NextBegins at (nexts.Field stage) = BeginsAt at stage
NextBegins at nexts.End = Unit {0}
NextBegins at (nexts.ReadOver n) = (n < 2 ^ 32) × (at ≤ head_limit)

-- the bytes of an update
abbrev pub IsOfUpdate : List ℕ → Type 0
IsOfUpdate bytes = (rest : List ℕ) × (bytes ≡ 0 ∷ rest)

-- what the stage says of the message: an update alone may be long
abbrev pub IsOfKind : Stage → List ℕ → Type 0
IsOfKind stages.UpdateHead bytes = IsOfUpdate bytes
IsOfKind (stages.RectangleHead at others) bytes = IsOfUpdate bytes
IsOfKind (stages.Data at begun next others) bytes = IsOfUpdate bytes
IsOfKind (stages.TextData n) bytes = n ≤ text_limit
IsOfKind stages.Type bytes = Unit {0}
IsOfKind stages.ColorMapHead bytes = Unit {0}
IsOfKind stages.TextHead bytes = Unit {0}

abbrev pub NextIsOfKind : Next → List ℕ → Type 0
NextIsOfKind (nexts.Field stage) bytes = IsOfKind stage bytes
NextIsOfKind nexts.End bytes = Unit {0}
NextIsOfKind (nexts.ReadOver n) bytes = Unit {0}

-- The reader stands at a field that has begun. What the message says, whatever comes, is what the
-- bytes from the field on say, after the rectangles that are whole.
pub record Linked (limit width height : ℕ) (bytes : List ℕ) (rectangles : List Rectangle) (stage : Stage) : Type 0 where
  pub link : (more : List ℕ) → unlimited_at width height (bytes ++ more)
      ≡ following rectangles (resume width height stage (drop (start_of stage) bytes ++ more))
  pub begun : start_of stage ≤ length bytes
  pub short : length bytes ≤ limit
  pub kind : IsOfKind stage bytes

-- and the field isn't whole
pub record IsInField (limit width height : ℕ) (p : PartialMessage) : Type 0 where
  pub linked : Linked limit width height p.bytes.items p.rectangles.items p.stage
  pub end_is : p.end ≡ start_of p.stage + wants_of p.stage
  pub unfinished : length p.bytes.items < start_of p.stage + wants_of p.stage

-- The reader stands in bytes that are read over. After what is kept and as many bytes as have
-- passed, whichever they were, those that are left come to the message's end.
pub record IsOver (limit width height : ℕ) (bytes : List ℕ) (o : Over) : Type 0 where
  pub link : (skipped more : List ℕ) → length skipped ≡ o.passed
      → message_at limit width height ((bytes ++ skipped) ++ more) ≡ read_over o.left more
  pub some : 0 < o.left
  pub bound : o.passed + o.left < 2 ^ 32
  pub short : length bytes ≤ head_limit

-- how far the reader is
abbrev pub IsAt : ℕ → ℕ → ℕ → PartialMessage → Type 0
IsAt limit width height p = MatchOption p.over (IsInField limit width height p) (λ o. IsOver limit width height p.bytes.items o)

-- how many bytes have passed
abbrev pub passed_in : Option Over → ℕ
passed_in None = 0
passed_in (Some o) = o.passed

-- what is known once a reader has gone on after the fields that are whole
abbrev pub After : ℕ → ℕ → ℕ → List ℕ → PartialMessage → Ending → Type 0
After limit width height bytes p endings.Field = IsInField limit width height p
After limit width height bytes p endings.Whole = unlimited_at width height bytes ≡ Got (Recorded p.rectangles.items) []
After limit width height bytes p (endings.ReadOver n) = (n < 2 ^ 32) × (length bytes ≤ head_limit) × ((more : List ℕ) → unlimited_at width height (bytes ++ more) ≡ read_over n more)

-- Whole fields reach up to the end of the bytes, and this follows from them. What the message says,
-- whatever comes, is what follows, after the rectangles that are whole.
pub record Follows (limit width height : ℕ) (bytes : List ℕ) (rectangles : List Rectangle) (whole : AfterField) : Type 0 where
  pub link : (more : List ℕ) → unlimited_at width height (bytes ++ more) ≡ following rectangles (step_on width height whole more)
  pub begins : NextBegins (length bytes) whole.next
  pub kind : NextIsOfKind whole.next bytes
  pub short : length bytes ≤ limit

-- With so many bytes more, no others are kept, and room was taken for no others, nor for more
-- rectangles.
pub record TakesFor (n : ℕ) (old new : PartialMessage) : Type 0 where
  pub kept : length new.bytes.items ≤ length old.bytes.items + n
  pub room : vec_capacity new.bytes ≤ max (vec_capacity old.bytes) (room_for (length old.bytes.items + n))
  pub capacities : vec_capacity new.rectangles ≤ max (vec_capacity old.rectangles) (room_for (length old.bytes.items + n))
