-- Bytes that are read over.
use Rattle.std.proofs.Common.{◌≡◌, ℕ, ◌+◌, ◌-◌, ◌<◌, ◌≤◌, ◌^◌, List, [], ◌∷◌, ◌++◌, length, nat_eq, replicate, refl, sym, ap, ◌∙◌, subst, inl, inr, arith}
use Rattle.std.specs.Prelude.{Option, Some, None, MatchOption}
use Rattle.std.proofs.lemmas.List.{length-replicate, append-nil}
use Rattle.terms.specs.Reading.{Got, More, ◌>>=◌, field}
use Rattle.terms.proofs.Readings.{bind_got, skip_more, skip_whole, skip_waits, true_or_false}
use Rattle.terms.specs.Number.{u16_at}
use Rattle.terms.specs.declared.format.Format.{Format}
use Rattle.rfb_wire.specs.declared.partial_message.Over.{Over}
use Rattle.rfb_wire.specs.declared.partial_message.PartialMessage.{PartialMessage}
use Rattle.rfb_wire.specs.Grammar.{message_limit, Recorded, ReadOver, message_at, update_at, rectangles_at, read_over}
use Rattle.rfb_wire.specs.Host.{Host}
use Rattle.rfb_wire.specs.Reader.{head_limit}
use Rattle.rfb_wire.specs.PartialMessage.{IsAt, IsInField, IsOver, passed_in, unlimited_at}
use Rattle.client_wire.specs.Stream.{StandsFor, Moves}
use Rattle.rfb_wire.specs.Stream.{given}
use Rattle.client_wire.proofs.Streams.{empty_list, stands_kept, stands_whole, gives_none, gives_one, over_more}
use Rattle.rfb_wire.proofs.Turns.{field_waits, unlimited-first, message-first}

-- bytes that are read over: some of those that are left, all of them, and none
read_over_more : (j : ℕ) (taken more : List ℕ) → read_over (length taken + j) (taken ++ more) ≡ read_over j more
unfolding read_over
read_over_more = skip_more ReadOver

pub read_over_whole : (n : ℕ) (taken : List ℕ) → length taken ≡ n → read_over n taken ≡ Got ReadOver []
unfolding read_over
read_over_whole = skip_whole ReadOver

read_over_waits : (n : ℕ) → 0 < n → read_over n [] ≡ More
unfolding read_over
read_over_waits = skip_waits ReadOver

-- an update is not read over
pub update_never : (width height : ℕ) (bytes rest : List ℕ) → update_at width height bytes ≡ Got ReadOver rest → ⊥
unfolding update_at
update_never width height bytes rest e =
    let b = bind_got (field 1 bytes) (λ type head. field 3 head >>= λ f body. rectangles_at width height (u16_at f 1) 4 body >>= λ rectangles after. Got (Recorded rectangles) after) ReadOver rest e in
    let h = bind_got (field 3 b.rest) (λ f body. rectangles_at width height (u16_at f 1) 4 body >>= λ rectangles after. Got (Recorded rectangles) after) ReadOver rest b.then in
    let d = bind_got (rectangles_at width height (u16_at h.value 1) 4 h.rest) (λ rectangles after. Got (Recorded rectangles) after) ReadOver rest h.then in
    let last = d.then in
    absurd (cc)

-- for a message that is read over the limit plays no part
over_begins : (limit width height n : ℕ) (bytes : List ℕ) → 0 < length bytes → ((more : List ℕ) → unlimited_at width height (bytes ++ more) ≡ read_over n more)
    → (more : List ℕ) → message_at limit width height (bytes ++ more) ≡ read_over n more
over_begins limit width height n [] some link more = absurd (omega arith)
over_begins limit width height n (b ∷ bytes) some link more = elim (true_or_false (nat_eq b 0)) [
  | inl t ↦
      (let zeros : List ℕ = replicate n 0 in
      let whole = link zeros ∙ read_over_whole n zeros (length-replicate n 0) in
      let first = rw t at (unlimited-first width height b (bytes ++ zeros)) in
      absurd (update_never width height (b ∷ (bytes ++ zeros)) [] (sym first ∙ whole)))
  | inr t ↦
      (let first = rw t at (message-first limit width height b (bytes ++ more)) in
      let same = rw t at (unlimited-first width height b (bytes ++ more)) in
      first ∙ sym same ∙ link more)
]

append_empty : (bytes skipped : List ℕ) → length skipped ≡ 0 → bytes ++ skipped ≡ bytes
append_empty bytes skipped none = ap (λ z. bytes ++ z) (empty_list skipped none) ∙ append-nil bytes

pub over_starts : (limit width height n : ℕ) (bytes : List ℕ) → 0 < length bytes → length bytes ≤ head_limit → ((more : List ℕ) → unlimited_at width height (bytes ++ more) ≡ read_over n more)
    → 0 < n → n < 2 ^ 32 → IsOver limit width height bytes (record { passed = 0; left = n })
over_starts limit width height n bytes head short link some bound = record {
  link = λ skipped more none.
      let empty : bytes ++ skipped ≡ bytes = append_empty bytes skipped none in
      ap (λ z. message_at limit width height (z ++ more)) empty ∙ over_begins limit width height n bytes head link more;
  some = some;
  bound = omega arith;
  short = short;
}

-- one that has no more bytes
pub over_at_once : (limit width height : ℕ) (bytes : List ℕ) → 0 < length bytes → ((more : List ℕ) → unlimited_at width height (bytes ++ more) ≡ read_over 0 more)
    → message_at limit width height bytes ≡ Got ReadOver []
over_at_once limit width height bytes head link =
    ap (message_at limit width height) (sym (append-nil bytes)) ∙ over_begins limit width height 0 bytes head link [] ∙ read_over_whole 0 [] refl

-- some of the bytes pass
pub over_goes : (limit width height n : ℕ) (bytes : List ℕ) (o : Over) → IsOver limit width height bytes o → n < o.left
    → IsOver limit width height bytes (record { passed = o.passed + n; left = o.left - n })
over_goes limit width height n bytes o is few = record {
  link = over_more (message_at limit width height) read_over read_over_more bytes o.passed o.left n few is.link;
  some = omega arith;
  bound = omega (arith, is.bound);
  short = is.short;
}

-- if all have passed, the message is whole
pub pass_ends : (format : Format) (width height : ℕ) (bytes kept : List ℕ) (o : Over) (passed : ℕ) (old : List Host) (rest taken : List ℕ) → IsOver (message_limit format) width height bytes o
    → StandsFor bytes o.passed rest → length taken ≡ o.left → kept ≡ [] → passed ≡ 0
    → Moves (message_at (message_limit format) width height) (given format width height) kept passed old old (rest ++ taken)
pass_ends format width height bytes kept o passed old rest taken over s is none no_passed =
    let whole : message_at (message_limit format) width height (rest ++ taken) ≡ Got ReadOver [] =
    ap (λ z. message_at (message_limit format) width height (z ++ taken)) s.is ∙ over.link s.skipped taken s.count ∙ read_over_whole o.left taken is in
    record {
      rest = [];
      gives = gives_one (message_at (message_limit format) width height) (given format width height) old old ReadOver (rest ++ taken) whole (sym (append-nil old));
      stands = rw (none, no_passed) (stands_whole []);
    }

waits_by : (limit width height : ℕ) (p : PartialMessage) (o : Option Over) → MatchOption o (IsInField limit width height p) (λ v. IsOver limit width height p.bytes.items v)
    → (rest : List ℕ) → StandsFor p.bytes.items (passed_in o) rest → message_at limit width height rest ≡ More
waits_by limit width height p None at rest s =
    ap (message_at limit width height) (stands_kept p.bytes.items 0 rest refl s) ∙ field_waits limit width height p at
waits_by limit width height p (Some o) at rest s =
    ap (message_at limit width height) (s.is ∙ sym (append-nil (p.bytes.items ++ s.skipped)))
    ∙ at.link s.skipped [] s.count ∙ read_over_waits o.left at.some

-- what a reader stands for waits
pub at_waits : (limit width height : ℕ) (p : PartialMessage) → IsAt limit width height p → (rest : List ℕ) → StandsFor p.bytes.items (passed_in p.over) rest
    → message_at limit width height rest ≡ More
at_waits limit width height p at rest s = waits_by limit width height p p.over at rest s

-- a message that is whole at its head
pub once_ends : (format : Format) (width height : ℕ) (bytes kept : List ℕ) (passed : ℕ) (old : List Host) → message_at (message_limit format) width height bytes ≡ Got ReadOver []
    → kept ≡ [] → passed ≡ 0 → Moves (message_at (message_limit format) width height) (given format width height) kept passed old old bytes
once_ends format width height bytes kept passed old whole none no_passed = record {
  rest = [];
  gives = gives_one (message_at (message_limit format) width height) (given format width height) old old ReadOver bytes whole (sym (append-nil old));
  stands = rw (none, no_passed) (stands_whole []);
}

-- a message that is kept as far as it came
pub kept_stands : (format : Format) (width height : ℕ) (kept : List ℕ) (passed : ℕ) (old : List Host) (stream : List ℕ) → stream ≡ kept → passed ≡ 0
    → Moves (message_at (message_limit format) width height) (given format width height) kept passed old old stream
kept_stands format width height kept passed old stream is none = record {
  rest = kept;
  gives = gives_none (message_at (message_limit format) width height) (given format width height) old old stream kept refl is;
  stands = rw none (stands_whole kept);
}

-- a reader that reads nothing over stands at a field
pub in_field : (limit width height : ℕ) (p : PartialMessage) → p.over ≡ None → IsAt limit width height p → IsInField limit width height p
in_field limit width height p none at =
    subst (λ (o : Option Over). MatchOption o (IsInField limit width height p) (λ v. IsOver limit width height p.bytes.items v)) none at
