-- Whole heads, and why none is there.
use Rattle.std.proofs.Common.{◌≡◌, ◌≢◌, ◌≤◌, ℕ, ◌*◌, Bool, false, List, [], ◌∷◌, ◌++◌, length, refl, sym, ap, ◌∙◌, subst, arith, append-nil, length-append, inr}
use Rattle.std.specs.Prelude.{All, IsAscii, IsTrue, take, codes, flat_map}
use Rattle.std.proofs.lemmas.List.Elements.{All-head, All-tail}
use denote.Ref.{Bor}
use Rattle.httparse.specs.declared.Error.{Error}
use Rattle.httparse.specs.declared.Error.TheVariants as Of
use Rattle.request_head.specs.declared.head.Fault.{Fault}
use Rattle.request_head.specs.declared.head.Fault.TheVariants as For
use Rattle.httparse.specs.declared.spans.HeaderSpan.{HeaderSpan}
use Rattle.httparse.specs.declared.spans.RequestSpans.{RequestSpans}
use Rattle.httparse.specs.Grammar.{LineEnd, crlf, lf, print_end, print_blank, print_version, print_field, Field, IsField, RequestHead, print_request, ReadsRequest, NeverHasRequest}
use Rattle.httparse.specs.Spans.{IsRequestAt, RequestExceeds, span_bytes}
use Rattle.httparse.proofs.GrammarLemmas.{print_request-append, request_prefix_free}
use Rattle.request_head.specs.Fields.{covered, values_of}
use Rattle.request_head.specs.Heads.{ReadsHead, NeverHasHead}
use Rattle.request_head.specs.Hosts.{IsAllowed}
use Rattle.request_head.specs.Judgement.{HasItsHost, IsTaken, IsRefused, TakesHead, RefusesHead, IsFaultOf}

-- one host, which isn't allowed
pub sent_elsewhere : (names : List (Bor (List ℕ))) (minor : ℕ) (hosts : List (List ℕ)) (host : List ℕ) (test : Bool) → hosts ≡ host ∷ []
    → (IsTrue test → IsAllowed names host) × (IsAllowed names host → IsTrue test) → test ≡ false
    → HasItsHost minor hosts × (All (IsAllowed names) hosts → ⊥)
sent_elsewhere names minor hosts host test is tests fails =
    subst (λ (z : List (List ℕ)). HasItsHost minor z × (All (IsAllowed names) z → ⊥)) (sym is) (
      refl,
      λ all.
          let t : IsTrue false = subst (λ (b : Bool). IsTrue b) fails (tests.1 (All-head (IsAllowed names) host [] all)) in
          absurd (cc t),
    )

-- each field takes three bytes at least
end_is_long : (end : LineEnd) → 1 ≤ length (print_end end)
end_is_long crlf = omega arith
end_is_long lf = omega arith

field_is_long : (field : Field) → IsField field → 3 ≤ length (print_field field)
field_is_long field is = grind (arith, length-append, is.name.0, end_is_long field.end)

fields_are_long : (fields : List Field) → All IsField fields → 3 * length fields ≤ length (flat_map print_field fields)
fields_are_long [] all = omega arith
fields_are_long (field ∷ fields) all =
    let one = field_is_long field (All-head IsField field fields all) in
    let rest = fields_are_long fields (All-tail IsField field fields all) in
    omega (arith, one, rest, length-append (print_field field) (flat_map print_field fields))

last_is_shorter : (a b c d e f g : List ℕ) → length f ≤ length (a ++ (b ++ 32 ∷ (c ++ 32 ∷ (d ++ (e ++ ((f ++ g) ++ []))))))
last_is_shorter a b c d e f g = grind (arith, length-append)

head_is_long : (head : RequestHead) → All IsField head.fields → 3 * length head.fields ≤ length (print_request head)
head_is_long head all =
    let fields = fields_are_long head.fields all in
    let printed : length (print_request head) ≡ _ = ap length (sym (append-nil (print_request head)) ∙ print_request-append head []) in
    let last = last_is_shorter (print_blank head.blank) head.method head.target (print_version head.minor) (print_end head.line_end) (flat_map print_field head.fields) (print_end head.last) in
    omega (arith, fields, printed, last)

-- so many fields have no room in a head
no_room : (bytes : List ℕ) (room : ℕ) → length bytes ≤ 8192 → 2731 ≤ room → RequestExceeds room bytes → ⊥
no_room bytes room short large exceeds =
    let front : List ℕ = exceeds.0 in
    let head : RequestHead = exceeds.3 in
    let long = head_is_long head exceeds.4.0.fields in
    let whole : length (front ++ 10 ∷ []) ≡ length (print_request head) = ap length (exceeds.4.1 ∙ append-nil (print_request head)) in
    let cut : length bytes ≡ length (front ++ exceeds.1) = ap length exceeds.2 in
    omega (arith, short, large, long, whole, cut, exceeds.5, length-append front (10 ∷ []), length-append front exceeds.1)

-- what is refused for what it is never has a sound head
pub refused : (bytes : List ℕ) (room : ℕ) (error : Error) → length bytes ≤ 8192 → 2731 ≤ room
    → (error ≢ Of.TooManyHeaders → NeverHasRequest bytes) → (error ≡ Of.TooManyHeaders → RequestExceeds room bytes) → NeverHasHead bytes
refused bytes room Of.TooManyHeaders short large never exceeds = absurd (no_room bytes room short large (exceeds refl))
refused bytes room error short large never exceeds = λ more head rest reads. never (λ is. cc) more head rest reads.0

-- a whole head is taken as its parts are
pub taken_as : (names : List (Bor (List ℕ))) (bytes : List ℕ) (spans : List HeaderSpan) (request : RequestSpans) (head : RequestHead) → IsRequestAt bytes spans request head
    → IsTaken names (span_bytes bytes request.method) request.version (values_of (codes "Host") (covered bytes (take request.headers spans))) → TakesHead names head
taken_as names bytes spans request head at taken = rw (sym at.method, sym at.version, sym at.fields) taken

-- and refused
pub refused_as : (names : List (Bor (List ℕ))) (bytes : List ℕ) (spans : List HeaderSpan) (request : RequestSpans) (head : RequestHead) → IsRequestAt bytes spans request head
    → (fault : Fault) → IsRefused names (span_bytes bytes request.method) request.version (values_of (codes "Host") (covered bytes (take request.headers spans))) fault → RefusesHead names head fault
refused_as names bytes spans request head at fault refused = rw (sym at.method, sym at.version, sym at.fields) refused

pub bytes_refused : (names : List (Bor (List ℕ))) (bytes : List ℕ) (head : RequestHead) (rest : List ℕ) → ReadsHead bytes head rest
    → (fault : Fault) → RefusesHead names head fault → IsFaultOf names bytes fault
bytes_refused names bytes head rest reads For.BadRequest refused = inr (head, rest, reads, refused)
bytes_refused names bytes head rest reads For.Forbidden refused = (head, rest, reads, refused)
bytes_refused names bytes head rest reads For.MethodNotAllowed refused = (head, rest, reads, refused)
bytes_refused names bytes head rest reads For.NotFound refused = refused
bytes_refused names bytes head rest reads For.TooLarge refused = absurd refused

-- a head whose target is of other characters
pub other_target : (bytes : List ℕ) (head : RequestHead) (rest : List ℕ) → ReadsRequest bytes head rest → (IsAscii head.target → ⊥) → NeverHasHead bytes
other_target bytes head rest reads other more again others sound =
    let same = (request_prefix_free bytes more head again rest others reads sound.0).0 in
    other (subst (λ (h : RequestHead). IsAscii h.target) (sym same) sound.1)
