-- What a reader's turn does: what it keeps says what the grammar says.
use Rattle.std.proofs.Common.{◌≡◌, ℕ, ◌+◌, ◌<◌, ◌≤◌, List, [], ◌∷◌, ◌++◌, length, take, drop, nat_eq, slice_index, refl, sym, ap, ◌∙◌, ◌⊎◌, inl, inr, arith, append_assoc, length-append}
use Rattle.std.specs.Prelude.{if◌then◌else◌}
use Rattle.std.proofs.lemmas.List.{append-nil, drop_all, drop-append-le, take_at, take-append-drop, length-drop}
use Rattle.pixel_format.specs.Format.{host_format}
use Rattle.rect_data.proofs.Steps.{field_waits as data_waits}
use Rattle.terms.specs.declared.format.Format.{Format}
use Rattle.rfb_wire.specs.Host.{host_of, IsRecorded}
use Rattle.terms.specs.Reading.{Reading, Got, More, Bad, ◌>>=◌, field, within}
use Rattle.terms.proofs.Readings.{field-whole, field-short, within-short, within-long}
use Rattle.rfb_wire.specs.declared.message.Rectangle.{Rectangle}
use Rattle.terms.specs.declared.wire_fault.WireFault.{WireFault}
use Rattle.terms.specs.declared.wire_fault.WireFault.TheVariants as faults
use Rattle.rfb_wire.specs.declared.partial_message.Stage.{Stage}
use Rattle.rfb_wire.specs.declared.partial_message.Stage.TheVariants as stages
use Rattle.rfb_wire.specs.Grammar.{message_limit, update_at, message_at, other_at, color_map_at, text_at, text_data_at, read_over, Message, Recorded, rectangle_at, rectangles_at}
use Rattle.rfb_wire.specs.PartialMessage.{wants_of, start_of, unlimited_at, following, others_at, resume, go_on, step_on, Linked, Follows, NextBegins, NextIsOfKind, IsInField, IsOfKind, IsOfUpdate}
use Rattle.rfb_wire.specs.declared.partial_message.PartialMessage.{PartialMessage}
use Rattle.rfb_wire.specs.declared.partial_message.Next.{Next}
use Rattle.rfb_wire.specs.declared.partial_message.Next.TheVariants as nexts
use Rattle.rfb_wire.specs.declared.partial_message.AfterField.{AfterField}
use Rattle.terms.specs.Fault.{UnlessMemory}
use Rattle.std.specs.Option.{option_to_list}
use Rattle.client_wire.proofs.Fronts.{unless_memory_map}
use Rattle.rfb_wire.proofs.Resume.{after_nil, after_after, after_over}
use Rattle.rfb_wire.proofs.Local.{message_local}

-- up to the limit, the limit plays no part
pub message-short : (limit width height : ℕ) (bytes : List ℕ) → length bytes ≤ limit → message_at limit width height bytes ≡ unlimited_at width height bytes
unfolding message_at unlimited_at
message-short limit width height bytes short =
    ap (λ (q : Reading Message WireFault). field 1 bytes >>= λ type rest. if nat_eq (slice_index type 0) 0 then q else other_at (slice_index type 0) rest)
    (within-short limit faults.TooLong (update_at width height) bytes short)

-- the parts of a message by its first byte
pub unlimited-first : (width height b : ℕ) (bytes : List ℕ)
    → unlimited_at width height (b ∷ bytes) ≡ (if nat_eq b 0 then update_at width height (b ∷ bytes) else other_at b bytes)
unfolding unlimited_at
unlimited-first width height b bytes = rw (field-whole {E = WireFault} 1 (b ∷ []) bytes refl) refl

pub message-first : (limit width height b : ℕ) (bytes : List ℕ)
    → message_at limit width height (b ∷ bytes) ≡ (if nat_eq b 0 then within limit faults.TooLong (update_at width height) (b ∷ bytes) else other_at b bytes)
unfolding message_at
message-first limit width height b bytes = rw (field-whole {E = WireFault} 1 (b ∷ []) bytes refl) refl

-- an update that isn't whole at the limit is too long with one byte more
pub message-long : (limit width height : ℕ) (kept more : List ℕ) → IsOfUpdate kept → length kept ≡ limit → unlimited_at width height kept ≡ More → 0 < length more
    → message_at limit width height (kept ++ more) ≡ Bad faults.TooLong
message-long limit width height kept more (rest, is) at waits one =
    let update : update_at width height (0 ∷ rest) ≡ More = sym (unlimited-first width height 0 rest) ∙ ap (unlimited_at width height) (sym is) ∙ waits in
    let at' : length (0 ∷ rest) ≡ limit = ap length (sym is) ∙ at in
    let over : limit < length ((0 ∷ rest) ++ more) = rw (length-append (0 ∷ rest) more) (omega arith) in
    let front : take limit ((0 ∷ rest) ++ more) ≡ 0 ∷ rest = take_at (0 ∷ rest) more limit at' in
    ap (λ z. message_at limit width height (z ++ more)) is
    ∙ message-first limit width height 0 (rest ++ more)
    ∙ within-long limit faults.TooLong (update_at width height) ((0 ∷ rest) ++ more) over (ap (update_at width height) front ∙ update)

-- a field that isn't whole
resume-short : (width height : ℕ) (stage : Stage) (bytes : List ℕ) → length bytes < wants_of stage → resume width height stage bytes ≡ More
unfolding resume unlimited_at others_at rectangles_at rectangle_at color_map_at text_at text_data_at
resume-short width height stages.Type bytes short = rw (field-short {E = WireFault} 1 bytes short) refl
resume-short width height stages.UpdateHead bytes short = rw (field-short {E = WireFault} 3 bytes short) refl
resume-short width height stages.ColorMapHead bytes short = rw (field-short {E = WireFault} 5 bytes short) refl
resume-short width height stages.TextHead bytes short = rw (field-short {E = WireFault} 7 bytes short) refl
resume-short width height (stages.TextData n) bytes short = rw (field-short {E = WireFault} n bytes short) refl
resume-short width height (stages.RectangleHead at others) bytes short = rw (field-short {E = WireFault} 12 bytes short) refl
resume-short width height (stages.Data at begun next others) bytes short = rw (data_waits host_format width height next bytes short) refl

-- if the field isn't whole, the message waits
pub linked_waits : (limit width height : ℕ) (bytes : List ℕ) (rectangles : List Rectangle) (stage : Stage) → Linked limit width height bytes rectangles stage
    → length bytes < start_of stage + wants_of stage → unlimited_at width height bytes ≡ More
linked_waits limit width height bytes rectangles stage l short =
    let few : length (drop (start_of stage) bytes) < wants_of stage = rw (length-drop) (omega (arith, l.begun)) in
    let link : unlimited_at width height (bytes ++ []) ≡ following rectangles (resume width height stage (drop (start_of stage) bytes ++ [])) = l.link [] in
    ap (unlimited_at width height) (sym (append-nil bytes)) ∙ link
    ∙ ap (λ z. following rectangles (resume width height stage z)) (append-nil (drop (start_of stage) bytes))
    ∙ ap (following rectangles) (resume-short width height stage (drop (start_of stage) bytes) few)

of_update_more : (bytes more : List ℕ) → IsOfUpdate bytes → IsOfUpdate (bytes ++ more)
of_update_more bytes more (rest, is) = (rest ++ more, ap (λ z. z ++ more) is)

kind_more : (stage : Stage) (bytes more : List ℕ) → IsOfKind stage bytes → IsOfKind stage (bytes ++ more)
kind_more stages.Type bytes more k = tt
kind_more stages.UpdateHead bytes more k = of_update_more bytes more k
kind_more stages.ColorMapHead bytes more k = tt
kind_more stages.TextHead bytes more k = tt
kind_more (stages.TextData n) bytes more k = k
kind_more (stages.RectangleHead at others) bytes more k = of_update_more bytes more k
kind_more (stages.Data at begun next others) bytes more k = of_update_more bytes more k

-- more bytes of the field
pub linked_more : (limit width height : ℕ) (bytes piece longer : List ℕ) (rectangles : List Rectangle) (stage : Stage) → Linked limit width height bytes rectangles stage
    → longer ≡ bytes ++ piece → length longer ≤ limit → Linked limit width height longer rectangles stage
linked_more limit width height bytes piece longer rectangles stage l is short = record {
  link = λ more.
      rw (is, append_assoc, drop-append-le (start_of stage) bytes piece l.begun, append_assoc) (l.link (piece ++ more));
  begun = rw (is, length-append) (omega (arith, l.begun));
  short = short;
  kind = rw is (kind_more stage bytes piece l.kind);
}

-- at the start of a message
pub linked_start : (limit width height : ℕ) (bytes : List ℕ) (rectangles : List Rectangle) → bytes ≡ [] → rectangles ≡ [] → Linked limit width height bytes rectangles stages.Type
unfolding resume
linked_start limit width height bytes rectangles none no_rectangles = rw (none, no_rectangles) (record {
  link = λ more. sym (after_nil (unlimited_at width height more));
  begun = omega arith;
  short = omega arith;
  kind = tt;
})

-- after whole fields
pub follows_goes : (limit width height : ℕ) (bytes : List ℕ) (rectangles done : List Rectangle) (step : AfterField)
    → Follows limit width height bytes rectangles step
    → done ≡ rectangles ++ option_to_list step.rectangle
    → (more : List ℕ) → unlimited_at width height (bytes ++ more) ≡ following done (go_on width height step.next more)
follows_goes limit width height bytes rectangles done step l is more =
    l.link more
    ∙ after_after rectangles (option_to_list step.rectangle) (go_on width height step.next more)
    ∙ ap (λ d. following d (go_on width height step.next more)) (sym is)

-- fields that begin at the end of what was kept
pub run_follows : (limit width height n : ℕ) (kept piece longer : List ℕ) (rectangles : List Rectangle) (stage : Stage) (step : AfterField)
    → Linked limit width height kept rectangles stage → start_of stage ≡ length kept → longer ≡ kept ++ take n piece → length longer ≤ limit
    → ((more : List ℕ) → resume width height stage (take n piece ++ more) ≡ step_on width height step more)
    → NextBegins (length longer) step.next → NextIsOfKind step.next longer
    → Follows limit width height longer rectangles step
run_follows limit width height n kept piece longer rectangles stage step l begun is short goes begins kind =
    let none : drop (start_of stage) kept ≡ [] = drop_all (start_of stage) kept (omega arith) in
    record {
      link = λ more.
          ap (λ z. unlimited_at width height (z ++ more)) is ∙ ap (unlimited_at width height) (append_assoc kept (take n piece) more)
          ∙ l.link (take n piece ++ more)
          ∙ ap (λ z. following rectangles (resume width height stage (z ++ (take n piece ++ more)))) none
          ∙ ap (following rectangles) (goes more);
      begins = begins;
      kind = kind;
      short = short;
    }

-- a fault in such fields
pub run_faults : (limit width height : ℕ) (kept front : List ℕ) (rectangles : List Rectangle) (stage : Stage) (f : WireFault)
    → Linked limit width height kept rectangles stage → start_of stage ≡ length kept
    → ((more : List ℕ) → resume width height stage (front ++ more) ≡ Bad f)
    → unlimited_at width height (kept ++ front) ≡ Bad f
run_faults limit width height kept front rectangles stage f l begun faults =
    let none : drop (start_of stage) kept ≡ [] = drop_all (start_of stage) kept (omega arith) in
    l.link front ∙ ap (λ z. following rectangles (resume width height stage (z ++ front))) none
    ∙ ap (λ z. following rectangles (resume width height stage z)) (sym (append-nil front))
    ∙ ap (following rectangles) (faults [])

-- with no field to come the message is whole
pub whole_ends : (width height : ℕ) (bytes : List ℕ) (done : List Rectangle) (next : Next)
    → ((more : List ℕ) → unlimited_at width height (bytes ++ more) ≡ following done (go_on width height next more))
    → next ≡ nexts.End → unlimited_at width height bytes ≡ Got (Recorded done) []
unfolding go_on
whole_ends width height bytes done next goes none =
    ap (unlimited_at width height) (sym (append-nil bytes)) ∙ goes []
    ∙ ap (λ n. following done (go_on width height n [])) none
    ∙ ap (λ d. Got (Recorded d) []) (append-nil done)

-- the next field begins at the end of the bytes
pub whole_goes : (limit width height : ℕ) (bytes : List ℕ) (done : List Rectangle) (next : Next) (stage : Stage)
    → ((more : List ℕ) → unlimited_at width height (bytes ++ more) ≡ following done (go_on width height next more))
    → next ≡ nexts.Field stage → start_of stage ≡ length bytes → length bytes ≤ limit → IsOfKind stage bytes → Linked limit width height bytes done stage
unfolding go_on
whole_goes limit width height bytes done next stage goes is begins short kind =
    let none : drop (start_of stage) bytes ≡ [] = drop_all (start_of stage) bytes (omega arith) in
    record {
      link = λ more. rw none (goes more ∙ ap (λ n. following done (go_on width height n more)) is);
      begun = omega arith;
      short = short;
      kind = kind;
    }

-- the bytes after the field are read over
pub whole_over : (width height : ℕ) (bytes : List ℕ) (done : List Rectangle) (next : Next) (n : ℕ)
    → ((more : List ℕ) → unlimited_at width height (bytes ++ more) ≡ following done (go_on width height next more))
    → next ≡ nexts.ReadOver n → (more : List ℕ) → unlimited_at width height (bytes ++ more) ≡ read_over n more
unfolding go_on
whole_over width height bytes done next n goes is more =
    goes more ∙ ap (λ k. following done (go_on width height k more)) is ∙ after_over done n more

-- a field that is refused
pub field_faults : (limit width height : ℕ) (bytes : List ℕ) (rectangles : List Rectangle) (stage : Stage) (f : WireFault)
    → Linked limit width height bytes rectangles stage
    → ((more : List ℕ) → resume width height stage (drop (start_of stage) bytes ++ more) ≡ Bad f)
    → unlimited_at width height bytes ≡ Bad f
field_faults limit width height bytes rectangles stage f l faults =
    ap (unlimited_at width height) (sym (append-nil bytes)) ∙ l.link [] ∙ ap (following rectangles) (faults [])

-- if the message is as long as it may be, and the field isn't whole, it is an update
long_update : (limit : ℕ) (stage : Stage) (kept : List ℕ) → 65544 ≤ limit → IsOfKind stage kept → length kept < start_of stage + wants_of stage → length kept ≡ limit → IsOfUpdate kept
long_update limit stages.Type kept room kind few long = absurd (omega arith)
long_update limit stages.UpdateHead kept room kind few long = kind
long_update limit stages.ColorMapHead kept room kind few long = absurd (omega arith)
long_update limit stages.TextHead kept room kind few long = absurd (omega arith)
long_update limit (stages.TextData n) kept room kind few long = absurd (omega arith)
long_update limit (stages.RectangleHead at others) kept room kind few long = kind
long_update limit (stages.Data at begun next others) kept room kind few long = kind

-- a piece of which nothing is taken
pub turn_long : (limit width height : ℕ) (kept piece : List ℕ) (rectangles : List Rectangle) (stage : Stage) (f : WireFault) → Linked limit width height kept rectangles stage
    → 65544 ≤ limit → length kept < start_of stage + wants_of stage → 0 < length piece
    → (f ≡ faults.NoMemory) ⊎ ((f ≡ faults.TooLong) × (length kept ≡ limit))
    → UnlessMemory f (message_at limit width height (kept ++ piece) ≡ Bad f)
turn_long limit width height kept piece rectangles stage f l room short one (inl e) = rw e tt
turn_long limit width height kept piece rectangles stage f l room short one (inr e) =
    rw e.0 (message-long limit width height kept piece (long_update limit stage kept room l.kind short e.1) e.1 (linked_waits limit width height kept rectangles stage l short) one)

-- a fault in the bytes that are taken is one of the whole piece
pub turn_faults : (limit width height n : ℕ) (kept piece taken : List ℕ) (f : WireFault) → taken ≡ kept ++ take n piece → length taken ≤ limit
    → UnlessMemory f (unlimited_at width height taken ≡ Bad f) → UnlessMemory f (message_at limit width height (kept ++ piece) ≡ Bad f)
turn_faults limit width height n kept piece taken f is short fault =
    unless_memory_map f (unlimited_at width height taken ≡ Bad f) (message_at limit width height (kept ++ piece) ≡ Bad f)
    (λ e.
    let first : message_at limit width height taken ≡ Bad f = message-short limit width height taken short ∙ e in
    let local = rw first at (message_local limit width height taken (drop n piece)) in
    let all : taken ++ drop n piece ≡ kept ++ piece = rw (is, append_assoc, take-append-drop) refl in
    ap (message_at limit width height) (sym all) ∙ local)
    fault

-- what is whole within the limit is recorded
pub whole_recorded : (format : Format) (width height : ℕ) (bytes whole : List ℕ) (rectangles : List Rectangle) → bytes ≡ whole → length whole ≤ message_limit format
    → unlimited_at width height whole ≡ Got (Recorded rectangles) [] → IsRecorded (host_of format width height bytes rectangles)
whole_recorded format width height bytes whole rectangles is short e =
    ap (message_at (message_limit format) width height) is ∙ message-short (message_limit format) width height whole short ∙ e

-- if a field isn't whole, the message waits
pub field_waits : (limit width height : ℕ) (p : PartialMessage) → IsInField limit width height p → message_at limit width height p.bytes.items ≡ More
field_waits limit width height p at =
    message-short limit width height p.bytes.items at.linked.short
    ∙ linked_waits limit width height p.bytes.items p.rectangles.items p.stage at.linked at.unfinished
