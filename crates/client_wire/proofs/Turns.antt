-- What a reader's turn does: what it keeps and counts says what the grammar says.
use Rattle.std.proofs.Common.{◌≡◌, ℕ, ◌+◌, ◌-◌, ◌<◌, List, [], ◌∷◌, ◌++◌, length, take, drop, refl, sym, ap, ◌∙◌, arith, append_assoc, length-append}
use Rattle.std.proofs.lemmas.List.{append-nil, drop_all, drop-append-le, take-append-drop, length-drop}
use Rattle.terms.specs.Reading.{Got, More, Bad}
use Rattle.terms.proofs.Readings.{skip_more, skip_whole, skip_waits}
use Rattle.client_wire.specs.declared.message_type.ClientMessageType.{ClientMessageType}
use Rattle.client_wire.specs.declared.message.ClientMessage.{ClientMessage}
use Rattle.client_wire.specs.declared.message.ClientMessage.TheVariants as messages
use Rattle.terms.specs.declared.wire_fault.WireFault.{WireFault}
use Rattle.client_wire.specs.declared.partial_message.Stage.{Stage}
use Rattle.client_wire.specs.declared.partial_message.Stage.TheVariants as stages
use Rattle.client_wire.specs.declared.partial_message.Over.{Over}
use Rattle.client_wire.specs.declared.partial_message.Position.{Position}
use Rattle.client_wire.specs.declared.partial_message.Position.TheVariants as positions
use Rattle.client_wire.specs.declared.partial_message.PartialMessage.{PartialMessage}
use Rattle.terms.specs.Fault.{UnlessMemory}
use Rattle.client_wire.specs.Reader.{kept_limit, IsHeadAlone}
use Rattle.client_wire.specs.Grammar.{input_at, message_at}
use Rattle.client_wire.specs.PartialMessage.{wants_of, start_of, resume, position_at, BeginsAt, IsLinked, IsInField, IsOver, IsAtPosition, IsAt, passed_in, TakesFor}
use Rattle.client_wire.specs.Stream.{StandsFor, Moves, itself}
use Rattle.client_wire.proofs.Fronts.{unless_memory_map}
use Rattle.client_wire.proofs.Fronts.{pixel_format_never, encodings_never, request_never}
use Rattle.client_wire.proofs.Resume.{resume-short}
use Rattle.client_wire.proofs.Streams.{gives_none, gives_one, empty_list, stands_kept, stands_whole, over_more}

-- bytes that are read over: some of those that are left, all of them, and none
input_more : (type : ClientMessageType) (j : ℕ) (taken more : List ℕ) → input_at type (length taken + j) (taken ++ more) ≡ input_at type j more
unfolding input_at
input_more type = skip_more (messages.Input type)

input_whole : (type : ClientMessageType) (n : ℕ) (taken : List ℕ) → length taken ≡ n → input_at type n taken ≡ Got (messages.Input type) []
unfolding input_at
input_whole type = skip_whole (messages.Input type)

input_waits : (type : ClientMessageType) (n : ℕ) → 0 < n → input_at type n [] ≡ More
unfolding input_at
input_waits type = skip_waits (messages.Input type)

append_empty : (bytes skipped : List ℕ) → length skipped ≡ 0 → bytes ++ skipped ≡ bytes
append_empty bytes skipped none = ap (λ z. bytes ++ z) (empty_list skipped none) ∙ append-nil bytes

-- at the start of a message
pub at_start : (bytes : List ℕ) → bytes ≡ [] → IsInField bytes stages.Type
unfolding resume
at_start bytes none = rw none (record { linked = record { link = λ more. refl; begun = omega arith }; unfinished = omega arith; short = omega arith })

-- at what follows a whole field
pub begins_there : (bytes : List ℕ) (at : ℕ) (p : Position) → ((more : List ℕ) → message_at (bytes ++ more) ≡ position_at p more) → BeginsAt at p → length bytes ≡ at
    → IsAtPosition bytes p
begins_there bytes at (positions.Field stage) goes begins is =
    let start = begins.0 in
    let some = begins.1 in
    let few = begins.2 in
    let none : drop (start_of stage) bytes ≡ [] = drop_all (start_of stage) bytes (omega arith) in
    record {
      linked = record {
        link = λ more. goes more ∙ ap (λ z. resume stage (z ++ more)) (sym none);
        begun = omega arith;
      };
      unfinished = omega arith;
      short = omega arith;
    }
begins_there bytes at (positions.ReadOver o) goes begins is =
    let none_passed = begins.0 in
    let bound = begins.2 in
    let head = begins.3 in
    record {
      link = λ skipped more count. ap (λ z. message_at (z ++ more)) (append_empty bytes skipped (count ∙ none_passed)) ∙ goes more;
      some = begins.1;
      bound = omega arith;
      short = omega arith;
    }

pub passed_there : (at : ℕ) (p : Position) → BeginsAt at p → passed_in p ≡ 0
passed_there at (positions.Field stage) begins = refl
passed_there at (positions.ReadOver o) begins = begins.0

-- more bytes of the field
pub linked_more : (bytes piece longer : List ℕ) (stage : Stage) → IsLinked bytes stage → longer ≡ bytes ++ piece → IsLinked longer stage
linked_more bytes piece longer stage l is = record {
  link = λ more.
      rw (is, append_assoc, drop-append-le (start_of stage) bytes piece l.begun, append_assoc) (l.link (piece ++ more));
  begun = rw (is, length-append) (omega (arith, l.begun));
}

-- if the field isn't whole, the message waits
field_waits : (bytes : List ℕ) (stage : Stage) → IsInField bytes stage → message_at bytes ≡ More
field_waits bytes stage at =
    let few : length (drop (start_of stage) bytes) < wants_of stage = rw (length-drop) (omega (arith, at.linked.begun, at.unfinished)) in
    ap message_at (sym (append-nil bytes)) ∙ at.linked.link []
    ∙ ap (resume stage) (append-nil (drop (start_of stage) bytes))
    ∙ resume-short stage (drop (start_of stage) bytes) few

waits_at : (bytes : List ℕ) (p : Position) → IsAtPosition bytes p → (rest : List ℕ) → StandsFor bytes (passed_in p) rest → message_at rest ≡ More
waits_at bytes (positions.Field stage) at rest s = ap message_at (stands_kept bytes 0 rest refl s) ∙ field_waits bytes stage at
waits_at bytes (positions.ReadOver o) at rest s =
    ap message_at (s.is ∙ sym (append-nil (bytes ++ s.skipped))) ∙ at.link s.skipped [] s.count ∙ input_waits o.kind o.left at.some

-- what a reader stands for waits
pub at_waits : (p : PartialMessage) → IsAt p → (rest : List ℕ) → StandsFor p.bytes.items (passed_in p.position) rest → message_at rest ≡ More
at_waits p at rest s = waits_at p.bytes.items p.position at rest s

-- a message that is kept as far as it came
pub kept_moves : (kept : List ℕ) (passed : ℕ) (old : List ClientMessage) (stream : List ℕ) → stream ≡ kept → passed ≡ 0 → Moves message_at itself kept passed old old stream
kept_moves kept passed old stream is none = record {
  rest = kept;
  gives = gives_none message_at itself old old stream kept refl is;
  stands = rw none (stands_whole kept);
}

-- a message that is whole, and given
pub given_moves : (kept : List ℕ) (passed : ℕ) (old new : List ClientMessage) (stream : List ℕ) (m : ClientMessage) → message_at stream ≡ Got m []
    → new ≡ old ++ m ∷ [] → kept ≡ [] → passed ≡ 0 → Moves message_at itself kept passed old new stream
given_moves kept passed old new stream m whole given none no_passed = record {
  rest = [];
  gives = gives_one message_at itself old new m stream whole given;
  stands = rw (none, no_passed) (stands_whole []);
}

-- some of the bytes pass
pub over_goes : (n : ℕ) (bytes : List ℕ) (o : Over) → IsOver bytes o → n < o.left
    → IsOver bytes (record { kind = o.kind; passed = o.passed + n; left = o.left - n })
over_goes n bytes o is few = record {
  link = over_more message_at (input_at o.kind) (input_more o.kind) bytes o.passed o.left n few is.link;
  some = omega arith;
  bound = omega (arith, is.bound);
  short = is.short;
}

-- if all have passed, the message is whole
pub over_whole : (bytes : List ℕ) (o : Over) (rest taken : List ℕ) → IsOver bytes o → StandsFor bytes o.passed rest → length taken ≡ o.left
    → message_at (rest ++ taken) ≡ Got (messages.Input o.kind) []
over_whole bytes o rest taken over s is =
    ap (λ z. message_at (z ++ taken)) s.is ∙ over.link s.skipped taken s.count ∙ input_whole o.kind o.left taken is

-- a fault in the bytes that are taken is one of the whole piece
pub turn_faults : (n : ℕ) (kept piece taken : List ℕ) (f : WireFault) → taken ≡ kept ++ take n piece
    → UnlessMemory f ((more : List ℕ) → message_at (taken ++ more) ≡ Bad f) → UnlessMemory f (message_at (kept ++ piece) ≡ Bad f)
turn_faults n kept piece taken f is fault =
    unless_memory_map f ((more : List ℕ) → message_at (taken ++ more) ≡ Bad f) (message_at (kept ++ piece) ≡ Bad f)
    (λ e.
    let all : taken ++ drop n piece ≡ kept ++ piece = rw (is, append_assoc, take-append-drop) refl in
    ap message_at (sym all) ∙ e (drop n piece))
    fault

-- few bytes are kept
short_there : (bytes : List ℕ) (p : Position) → IsAtPosition bytes p → length bytes < kept_limit
short_there bytes (positions.Field stage) at = omega (arith, at.unfinished, at.short)
short_there bytes (positions.ReadOver o) at = omega (arith, at.short)

pub at_short : (p : PartialMessage) → IsAt p → length p.bytes.items < kept_limit
at_short p at = short_there p.bytes.items p.position at

-- what is kept of an input message is its head: the bytes of another field are of no such message
in_field_head : (bytes : List ℕ) (stage : Stage) → IsInField bytes stage → IsHeadAlone bytes
unfolding resume
in_field_head bytes stages.Type at more rest type e = omega (arith, at.unfinished)
in_field_head bytes stages.PixelFormat at more rest type e = absurd (pixel_format_never (drop 1 bytes ++ more) type rest (sym (at.linked.link more) ∙ e))
in_field_head bytes stages.EncodingsHead at more rest type e = omega (arith, at.unfinished)
in_field_head bytes (stages.Encodings count) at more rest type e = absurd (encodings_never count (drop 4 bytes ++ more) type rest (sym (at.linked.link more) ∙ e))
in_field_head bytes stages.Request at more rest type e = absurd (request_never (drop 1 bytes ++ more) type rest (sym (at.linked.link more) ∙ e))
in_field_head bytes stages.TextHead at more rest type e = omega (arith, at.unfinished)

head_there : (bytes : List ℕ) (p : Position) → IsAtPosition bytes p → IsHeadAlone bytes
head_there bytes (positions.Field stage) at = in_field_head bytes stage at
head_there bytes (positions.ReadOver o) at = λ more rest type e. at.short

pub at_head : (p : PartialMessage) → IsAt p → IsHeadAlone p.bytes.items
at_head p at = head_there p.bytes.items p.position at

-- bytes are taken after others
pub takes_both : (a b : ℕ) (old between new : PartialMessage) (n : ℕ) → n ≡ a + b → TakesFor a old between → TakesFor b between new → TakesFor n old new
takes_both a b old between new n is first second = record {
  kept = omega (arith, first.kept, second.kept);
  room = omega (arith, first.kept, first.room, second.room);
}
