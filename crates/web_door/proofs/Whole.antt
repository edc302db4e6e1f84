-- What a request's spans say is what its head says.
use Rattle.std.proofs.Common.{◌≡◌, ℕ, List, [], ◌∷◌, ◌++◌, length, drop, refl, sym, ap, subst, ◌∙◌, arith, inl, inr, length-append}
use Rattle.std.specs.Prelude.{take}
use denote.Ref.{Bor}
use Rattle.httparse.specs.declared.spans.HeaderSpan.{HeaderSpan}
use Rattle.httparse.specs.declared.spans.RequestSpans.{RequestSpans}
use Rattle.httparse.specs.Grammar.{RequestHead, print_request}
use Rattle.httparse.specs.Spans.{span_bytes}
use Rattle.request_head.specs.declared.head.Fault.{Fault}
use Rattle.request_head.specs.declared.head.Fault.TheVariants.{BadRequest, Forbidden, NotFound, MethodNotAllowed, TooLarge}
use Rattle.request_head.specs.Fields.{Fields, covered, fields_of}
use Rattle.request_head.specs.Heads.{ReadsHead}
use Rattle.request_head.specs.Judgement.{IsFaultOf, IsTakenAt, TakesHead}
use Rattle.web_target.specs.declared.asked.Asked.TheVariants.{Watch}
use Rattle.web_target.specs.declared.asked.Beginning.{Beginning}
use Rattle.web_target.specs.Targets.{IsTargetOf}
use Rattle.web_door.specs.declared.request.Judged.{Judged}
use Rattle.web_door.specs.declared.request.Judged.TheVariants as Is
use Rattle.web_door.specs.declared.request.Refusal.TheVariants.{Head, NoUpgrade, Foreign, Early}
use Rattle.web_door.specs.Doors.{IsJudgedBy, IsRequests, IsViewers}

-- the bytes after a head
abbrev rest_of : List ℕ → RequestSpans → List ℕ
rest_of front request = drop request.len front

all_gone : (front : List ℕ) → drop (length front) front ≡ []
all_gone [] = refl
all_gone (byte ∷ front) = all_gone front

-- there are some exactly if the head isn't all
nothing_left : (front : List ℕ) (n : ℕ) → n ≡ length front → drop n front ≡ []
nothing_left front n is = rw is (all_gone front)

something_left : (front head rest : List ℕ) → front ≡ head ++ rest → rest ≡ [] → length head ≡ length front
something_left front head rest is none = omega (arith, ap length is, length-append head rest, ap length none)

-- a viewer's connection, of this head
of_viewer : (names : List (Bor (List ℕ))) (front : List ℕ) (head : RequestHead) (rest : List ℕ) (beginning : Beginning) (is_all : Type 0)
    → ReadsHead front head rest → TakesHead names head → IsTargetOf (Watch beginning) head.target → (is_all → rest ≡ []) → (rest ≡ [] → is_all)
    → (judged : Judged) → IsViewers beginning head.method head.minor (fields_of head) is_all judged → IsJudgedBy names front judged
of_viewer names front head rest beginning is_all reads takes target whole part Is.Unfinished is = absurd is
of_viewer names front head rest beginning is_all reads takes target whole part (Is.Asked asked) is = absurd is
of_viewer names front head rest beginning is_all reads takes target whole part (Is.Watch begins answer) is =
    let for : IsTargetOf (Watch begins) head.target = subst (λ (b : Beginning). IsTargetOf (Watch b) head.target) (sym is.0) target in
    (head, rest, reads, takes, (whole is.1, (for, is.2)))
of_viewer names front head rest beginning is_all reads takes target whole part (Is.Refused (Head fault)) is = absurd is
of_viewer names front head rest beginning is_all reads takes target whole part (Is.Refused NoUpgrade) is = (head, rest, reads, takes, ((beginning, target), is))
of_viewer names front head rest beginning is_all reads takes target whole part (Is.Refused Foreign) is = (head, rest, reads, takes, ((beginning, target), is))
of_viewer names front head rest beginning is_all reads takes target whole part (Is.Refused Early) is =
    (head, rest, reads, takes, ((λ none. is.0 (part none)), (beginning, is.1.0, (target, is.1.1))))

-- a request, of this head
of_head : (names : List (Bor (List ℕ))) (front : List ℕ) (head : RequestHead) (rest : List ℕ) (is_all : Type 0)
    → ReadsHead front head rest → TakesHead names head → (is_all → rest ≡ []) → (rest ≡ [] → is_all)
    → (judged : Judged) → IsRequests head.method head.target head.minor (fields_of head) is_all judged → IsJudgedBy names front judged
of_head names front head rest is_all reads takes whole part judged (inl is) =
    rw is.3 (is.1, (head, rest, reads, takes, is.2))
of_head names front head rest is_all reads takes whole part judged (inr (inl is)) =
    of_viewer names front head rest is.0 is_all reads takes is.1 whole part judged is.2
of_head names front head rest is_all reads takes whole part judged (inr (inr is)) =
    rw is.1 (head, rest, reads, takes, is.0)

pub of_request : (names : List (Bor (List ℕ))) (front : List ℕ) (spans : List HeaderSpan) (request : RequestSpans) (head : RequestHead) → IsTakenAt names front spans request head
    → (judged : Judged)
    → IsRequests (span_bytes front request.method) (span_bytes front request.path) request.version (covered front (take request.headers spans)) (request.len ≡ length front) judged
    → IsJudgedBy names front judged
of_request names front spans request head get judged is =
    let at = get.covers in
    let rest = rest_of front request in
    let reads : ReadsHead front head rest = (at.reads, get.is_sound.1.1) in
    let of : IsRequests head.method head.target head.minor (fields_of head) (request.len ≡ length front) judged =
    subst (λ (m : List ℕ). IsRequests m head.target head.minor (fields_of head) (request.len ≡ length front) judged) at.method
    (subst (λ (t : List ℕ). IsRequests (span_bytes front request.method) t head.minor (fields_of head) (request.len ≡ length front) judged) at.path
    (subst (λ (v : ℕ). IsRequests (span_bytes front request.method) (span_bytes front request.path) v (fields_of head) (request.len ≡ length front) judged) at.version
    (subst (λ (f : Fields). IsRequests (span_bytes front request.method) (span_bytes front request.path) request.version f (request.len ≡ length front) judged) at.fields is))) in
    of_head names front head rest (request.len ≡ length front) reads get.is_taken (nothing_left front request.len)
    (λ none. at.len ∙ something_left front (print_request head) rest at.reads.1 none) judged of

-- a fault of the head
pub of_fault : (names : List (Bor (List ℕ))) (front : List ℕ) (fault : Fault) → IsFaultOf names front fault → IsJudgedBy names front (Is.Refused (Head fault))
of_fault names front BadRequest is = is
of_fault names front Forbidden is = is
of_fault names front MethodNotAllowed is = is
of_fault names front NotFound is = absurd is
of_fault names front TooLarge is = is
