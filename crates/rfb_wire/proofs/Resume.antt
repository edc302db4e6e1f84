-- What follows from a whole field: one equation for each stage.
use Rattle.std.proofs.Common.{◌≡◌, ℕ, ◌+◌, ◌-◌, ◌*◌, true, false, List, [], ◌∷◌, ◌++◌, length, length-append, nat_eq, slice_index, Some, None, refl, ap, ◌∙◌, append_assoc, arith}
use Rattle.std.specs.Prelude.{◌<◌, ◌≤◌, Option, IfSome, nat_lt, if◌then◌else◌}
use Rattle.terms.specs.Reading.{Reading, Got, More, Bad, ◌>>=◌, field, guard}
use Rattle.terms.proofs.Readings.{field-whole}
use Rattle.terms.specs.declared.area.Area.{Area}
use Rattle.rfb_wire.specs.declared.message.Rectangle.{Rectangle}
use Rattle.pixel_format.specs.Format.{host_format}
use Rattle.terms.specs.Number.{u16_at, u32_at}
use Rattle.rect_data.specs.declared.encoding.Encoding.{Encoding}
use Rattle.rect_data.specs.declared.judging.Judging.{Judging}
use Rattle.rect_data.specs.Grammar.{encoding_of, is_inside, data_at}
use Rattle.rect_data.specs.Judging as judging
use Rattle.rfb_wire.specs.declared.partial_message.Begun.{Begun}
use Rattle.terms.specs.declared.wire_fault.WireFault.{WireFault}
use Rattle.terms.specs.declared.wire_fault.WireFault.TheVariants as faults
use Rattle.rfb_wire.specs.declared.partial_message.Stage.TheVariants as stages
use Rattle.terms.specs.Number.{signed}
use Rattle.rfb_wire.specs.Grammar.{area_of, encoding_number, content_at, encoded_at, rectangle_at, rectangles_at, update_at, Message, Recorded, ReadOver, other_at, color_map_at, text_at, text_data_at, read_over, text_limit}
use Rattle.rfb_wire.specs.PartialMessage.{unlimited_at, following, others_at, ended, after_data, resume}

pub after_nil : (r : Reading Message WireFault) → following [] r ≡ r
after_nil (Got (Recorded rs) rest) = refl
after_nil (Got ReadOver rest) = refl
after_nil More = refl
after_nil (Bad f) = refl

pub after_after : (a b : List Rectangle) (r : Reading Message WireFault) → following a (following b r) ≡ following (a ++ b) r
after_after a b (Got (Recorded rs) rest) = rw append_assoc refl
after_after a b (Got ReadOver rest) = refl
after_after a b More = refl
after_after a b (Bad f) = refl

-- a message that is read over has no rectangles
over_after : (done : List Rectangle) (r : Reading (List ℕ) WireFault) → following done (r >>= λ skipped rest. Got ReadOver rest) ≡ (r >>= λ skipped rest. Got ReadOver rest)
over_after done (Got x rest) = refl
over_after done More = refl
over_after done (Bad f) = refl

pub after_over : (done : List Rectangle) (n : ℕ) (more : List ℕ) → following done (read_over n more) ≡ read_over n more
unfolding read_over
after_over done n more = over_after done (field n more)

pub others-zero : (width height at : ℕ) (more : List ℕ) → others_at width height 0 at more ≡ Got (Recorded []) more
unfolding others_at rectangles_at
others-zero width height at more = refl

pub type_of_update : (width height : ℕ) (f more : List ℕ) → length f ≡ 1 → nat_eq (slice_index f 0) 0 ≡ true
    → resume width height stages.Type (f ++ more) ≡ resume width height stages.UpdateHead more
unfolding resume unlimited_at update_at others_at
type_of_update width height f more whole is = rw (field-whole {E = WireFault} 1 f more whole, is) refl

-- the type of another message
pub type_of_other : (width height : ℕ) (f more : List ℕ) → length f ≡ 1 → nat_eq (slice_index f 0) 0 ≡ false
    → resume width height stages.Type (f ++ more) ≡ other_at (slice_index f 0) more
unfolding resume unlimited_at
type_of_other width height f more whole is = rw (field-whole {E = WireFault} 1 f more whole, is) refl

pub head_of_color_map : (width height : ℕ) (f more : List ℕ) → length f ≡ 5
    → resume width height stages.ColorMapHead (f ++ more) ≡ read_over (6 * u16_at f 3) more
unfolding resume color_map_at
head_of_color_map width height f more whole = rw (field-whole {E = WireFault} 5 f more whole) refl

pub head_of_text : (width height : ℕ) (f more : List ℕ) → length f ≡ 7
    → resume width height stages.TextHead (f ++ more) ≡ (if nat_lt text_limit (u32_at f 3) then read_over (u32_at f 3) more else text_data_at (u32_at f 3) more)
unfolding resume text_at
head_of_text width height f more whole = rw (field-whole {E = WireFault} 7 f more whole) refl

pub data_of_text : (width height : ℕ) (n : ℕ) (text more : List ℕ) → length text ≡ n
    → resume width height (stages.TextData n) (text ++ more) ≡ Got (Recorded []) more
unfolding resume text_data_at
data_of_text width height n text more whole = rw (field-whole {E = WireFault} n text more whole) refl

pub head_of_update : (width height : ℕ) (f more : List ℕ) → length f ≡ 3
    → resume width height stages.UpdateHead (f ++ more) ≡ others_at width height (u16_at f 1) 4 more
unfolding resume
head_of_update width height f more whole = rw (field-whole {E = WireFault} 3 f more whole) refl

-- after data that end here, the others
pub data_end : (width height at others : ℕ) (begun : Begun) (more : List ℕ)
    → after_data width height begun others (at + length more) (Got tt more) ≡ following (ended begun at ∷ []) (others_at width height others at more)
data_end width height at others begun more =
    let end : (at + length more) - length more ≡ at = omega arith in
    rw end refl

-- a whole field of data, and what follows from it
pub data_whole : (width height at others : ℕ) (begun : Begun) (next : Judging) (f more : List ℕ) (r : Reading Unit WireFault)
    → judging.resume host_format width height next (f ++ more) ≡ r
    → resume width height (stages.Data at begun next others) (f ++ more) ≡ after_data width height begun others ((at + length f) + length more) r
unfolding resume
data_whole width height at others begun next f more r e =
    let reach : at + length (f ++ more) ≡ (at + length f) + length more = rw (length-append f more) (omega arith) in
    rw (e, reach) refl

-- a rectangle in front of others
others_after : (r : Rectangle) (q : Reading (List Rectangle) WireFault)
    → ((q >>= λ others after. Got (r ∷ others) after) >>= λ rs after. Got (Recorded rs) after) ≡ following (r ∷ []) (q >>= λ rs after. Got (Recorded rs) after)
others_after r (Got rs rest) = refl
others_after r More = refl
others_after r (Bad f) = refl

first_and_others : (width height others : ℕ) (q : Reading Rectangle WireFault)
    → ((q >>= λ first rest. rectangles_at width height others first.end rest >>= λ rs after. Got (first ∷ rs) after) >>= λ rs after. Got (Recorded rs) after)
    ≡ (q >>= λ r rest. following (r ∷ []) (others_at width height others r.end rest))
unfolding others_at
first_and_others width height others (Got r rest) = others_after r (rectangles_at width height others r.end rest)
first_and_others width height others More = refl
first_and_others width height others (Bad f) = refl

-- after its header, a rectangle is its data
header_whole : (width height at others : ℕ) (f more : List ℕ) → length f ≡ 12
    → resume width height (stages.RectangleHead at others) (f ++ more)
    ≡ (guard (is_inside width height (area_of f)) faults.OutsideScreen
    (encoded_at width height (encoding_number f) (encoding_of (encoding_number f)) (area_of f) (at + 12) more)
    >>= λ r rest. following (r ∷ []) (others_at width height others r.end rest))
unfolding resume others_at rectangles_at rectangle_at
header_whole width height at others f more whole =
    first_and_others width height others (rectangle_at width height at (f ++ more))
    ∙ ap (λ (q : Reading Rectangle WireFault). q >>= λ r rest. following (r ∷ []) (others_at width height others r.end rest))
    (ap (λ (q : Reading (List ℕ) WireFault). q >>= λ head rest. guard (is_inside width height (area_of head)) faults.OutsideScreen
    (encoded_at width height (encoding_number head) (encoding_of (encoding_number head)) (area_of head) (at + 12) rest))
    (field-whole {E = WireFault} 12 f more whole))

pub header_outside : (width height at others : ℕ) (f more : List ℕ) → length f ≡ 12 → is_inside width height (area_of f) ≡ false
    → resume width height (stages.RectangleHead at others) (f ++ more) ≡ Bad faults.OutsideScreen
header_outside width height at others f more whole outside =
    header_whole width height at others f more whole ∙ rw outside refl

pub header_unknown : (width height at others : ℕ) (f more : List ℕ) → length f ≡ 12 → is_inside width height (area_of f) ≡ true
    → encoding_of (encoding_number f) ≡ None
    → resume width height (stages.RectangleHead at others) (f ++ more) ≡ Bad (faults.Encoding (signed (encoding_number f)))
header_unknown width height at others f more whole inside unknown =
    header_whole width height at others f more whole ∙ rw (inside, unknown) refl

-- the rectangle whose data begin after its header
abbrev pub begun_at : ℕ → Area → Encoding → Begun
begun_at start area encoding = record { start = start; area = area; encoding = encoding }

content_data : (width height at others : ℕ) (area : Area) (encoding : Encoding) (more : List ℕ) (r : Reading Unit WireFault)
    → ((r >>= λ content rest. Got (record { area = area; encoding = encoding; start = at; end = (at + length more) - length rest }) rest)
    >>= λ r rest. following (r ∷ []) (others_at width height others r.end rest)) ≡ after_data width height (begun_at at area encoding) others (at + length more) r
content_data width height at others area encoding more (Got x rest) = refl
content_data width height at others area encoding more More = refl
content_data width height at others area encoding more (Bad f) = refl

pub header_of_data : (width height at others : ℕ) (f more : List ℕ) (encoding : Encoding) → length f ≡ 12 → is_inside width height (area_of f) ≡ true
    → encoding_of (encoding_number f) ≡ Some encoding
    → resume width height (stages.RectangleHead at others) (f ++ more)
    ≡ after_data width height (begun_at (at + 12) (area_of f) encoding) others ((at + 12) + length more) (data_at host_format width height encoding (area_of f) more)
unfolding content_at
header_of_data width height at others f more encoding whole inside is =
    header_whole width height at others f more whole ∙ rw (inside, is)
    (content_data width height (at + 12) others (area_of f) encoding more (data_at host_format width height encoding (area_of f) more))

-- a field to come has bytes if they aren't all there
pub has_bytes : (n size : ℕ) (next : Option Judging) → n ≤ size → IfSome next (λ stage. size < n + judging.wants_of host_format stage)
    → judging.HasBytes host_format next
has_bytes n size None within few = tt
has_bytes n size (Some stage) within few = λ some. omega (arith, few, within)
