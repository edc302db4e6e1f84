-- What is kept of an unfinished message is short.
use Rattle.std.proofs.Common.{◌≡◌, ℕ, ◌+◌, ◌<◌, ◌≤◌, List, [], ◌∷◌, ◌++◌, length, take, drop, nat_eq, false, inl, inr, sym, ap, ◌∙◌, arith}
use Rattle.std.specs.Prelude.{Option, Some, None, MatchOption}
use Rattle.terms.specs.Reading.{Got, ◌>>=◌, field, within}
use Rattle.terms.proofs.Readings.{bind_got, within_got, true_or_false}
use Rattle.terms.specs.declared.wire_fault.WireFault.{WireFault}
use Rattle.terms.specs.declared.wire_fault.WireFault.TheVariants as faults
use Rattle.terms.proofs.Sizes.{are_limits}
use Rattle.terms.specs.declared.format.Format.{Format}
use Rattle.rfb_wire.specs.declared.message.Rectangle.{Rectangle}
use Rattle.rfb_wire.specs.declared.partial_message.Over.{Over}
use Rattle.rfb_wire.specs.declared.partial_message.PartialMessage.{PartialMessage}
use Rattle.rfb_wire.specs.declared.partial_message.Stage.{Stage}
use Rattle.rfb_wire.specs.declared.partial_message.Stage.TheVariants as stages
use Rattle.rfb_wire.specs.Grammar.{Recorded, ReadOver, message_at, message_limit, update_at, text_data_at}
use Rattle.rfb_wire.specs.Host.{is_update}
use Rattle.rfb_wire.specs.PartialMessage.{IsAt, IsInField, IsOver, IsOfUpdate, Linked, put, following, resume, start_of, wants_of, unlimited_at}
use Rattle.rfb_wire.specs.Reader.{head_limit, IsShort}
use Rattle.rfb_wire.proofs.Over.{update_never}
use Rattle.rfb_wire.proofs.Turns.{message-first, unlimited-first}
use Rattle.rfb_wire.proofs.Whole.{message-empty}

-- an update is not read over, whatever its limit
within_never : (limit width height : ℕ) (bytes rest : List ℕ) → within limit faults.TooLong (update_at width height) bytes ≡ Got ReadOver rest → ⊥
within_never limit width height bytes rest e =
    let g = within_got limit faults.TooLong (update_at width height) bytes ReadOver rest e in
    update_never width height (take limit bytes) g.rest g.first

of_update_never : (limit width height : ℕ) (bytes rest : List ℕ) → IsOfUpdate bytes → message_at limit width height bytes ≡ Got ReadOver rest → ⊥
of_update_never limit width height bytes rest (body, is) e =
    within_never limit width height (0 ∷ body) rest
    (sym (message-first limit width height 0 body) ∙ ap (message_at limit width height) (sym is) ∙ e)

of_update_more : (bytes more : List ℕ) → IsOfUpdate bytes → IsOfUpdate (bytes ++ more)
of_update_more bytes more (rest, is) = (rest ++ more, ap (λ z. z ++ more) is)

-- nor is it another message
of_update_not : (bytes : List ℕ) → IsOfUpdate bytes → is_update bytes ≡ false → ⊥
of_update_not bytes (rest, is) other = let both = sym other ∙ ap is_update is in absurd (cc)

-- for a message that is read over the limit plays no part
unlimited_over : (limit width height : ℕ) (bytes rest : List ℕ) → message_at limit width height bytes ≡ Got ReadOver rest → unlimited_at width height bytes ≡ Got ReadOver rest
unlimited_over limit width height [] rest e = let none = message-empty limit width height in absurd (let both = sym none ∙ e in cc)
unlimited_over limit width height (b ∷ bytes) rest e = elim (true_or_false (nat_eq b 0)) [
  | inl t ↦ absurd (within_never limit width height (b ∷ bytes) rest (sym (rw t at (message-first limit width height b bytes)) ∙ e))
  | inr t ↦ rw t at (unlimited-first width height b bytes) ∙ sym (rw t at (message-first limit width height b bytes)) ∙ e
]

-- a text that is recorded is not read over
text_never : (n : ℕ) (done : List Rectangle) (bytes rest : List ℕ) → following done (text_data_at n bytes) ≡ Got ReadOver rest → ⊥
unfolding text_data_at
text_never n done bytes rest e =
    let b = bind_got (field {E = WireFault} n bytes >>= λ text after. Got (Recorded []) after) (λ m after. Got (put done m) after) ReadOver rest e in
    let f = bind_got (field {E = WireFault} n bytes) (λ text after. Got (Recorded []) after) b.value b.rest b.first in
    let first = f.then in
    let last = b.then in
    let is : b.value ≡ Recorded [] = cc in
    let put_is = ap (put done) is in
    absurd (cc)

in_field : (limit width height : ℕ) (bytes : List ℕ) (done : List Rectangle) (stage : Stage) → Linked limit width height bytes done stage
    → length bytes < start_of stage + wants_of stage → (more rest : List ℕ) → message_at limit width height (bytes ++ more) ≡ Got ReadOver rest → length bytes ≤ head_limit
unfolding resume
in_field limit width height bytes done stages.Type l few more rest e = omega arith
in_field limit width height bytes done stages.UpdateHead l few more rest e = omega arith
in_field limit width height bytes done stages.ColorMapHead l few more rest e = omega arith
in_field limit width height bytes done stages.TextHead l few more rest e = omega arith
in_field limit width height bytes done (stages.TextData n) l few more rest e =
    absurd (text_never n done (drop 8 bytes ++ more) rest (sym (l.link more) ∙ unlimited_over limit width height (bytes ++ more) rest e))
in_field limit width height bytes done (stages.RectangleHead at others) l few more rest e =
    absurd (of_update_never limit width height (bytes ++ more) rest (of_update_more bytes more l.kind) e)
in_field limit width height bytes done (stages.Data at begun next others) l few more rest e =
    absurd (of_update_never limit width height (bytes ++ more) rest (of_update_more bytes more l.kind) e)

other_short : (limit width height : ℕ) (bytes : List ℕ) (done : List Rectangle) (stage : Stage) → Linked limit width height bytes done stage
    → length bytes < start_of stage + wants_of stage → is_update bytes ≡ false → length bytes < 65544
other_short limit width height bytes done stages.Type l few other = omega arith
other_short limit width height bytes done stages.UpdateHead l few other = omega arith
other_short limit width height bytes done stages.ColorMapHead l few other = omega arith
other_short limit width height bytes done stages.TextHead l few other = omega arith
other_short limit width height bytes done (stages.TextData n) l few other = omega (arith, l.kind)
other_short limit width height bytes done (stages.RectangleHead at others) l few other = absurd (of_update_not bytes l.kind other)
other_short limit width height bytes done (stages.Data at begun next others) l few other = absurd (of_update_not bytes l.kind other)

short_by : (format : Format) (width height : ℕ) (p : PartialMessage) (o : Option Over)
    → MatchOption o (IsInField (message_limit format) width height p) (λ v. IsOver (message_limit format) width height p.bytes.items v) → IsShort (message_limit format) width height p.bytes.items
short_by format width height p None at = record {
  limited = at.linked.short;
  other = other_short (message_limit format) width height p.bytes.items p.rectangles.items p.stage at.linked at.unfinished;
  head = in_field (message_limit format) width height p.bytes.items p.rectangles.items p.stage at.linked at.unfinished;
}
short_by format width height p (Some o) at = record {
  limited = omega (arith, at.short, (are_limits format).text);
  other = λ other. omega (arith, at.short);
  head = λ more rest e. at.short;
}

-- wherever a reader stands
pub at_short : (format : Format) (width height : ℕ) (p : PartialMessage) → IsAt (message_limit format) width height p → IsShort (message_limit format) width height p.bytes.items
at_short format width height p at = short_by format width height p p.over at
