-- Bytes are read in one way alone.
use Rattle.std.proofs.Common.{◌≡◌, ◌<◌, ◌≤◌, ℕ, List, [], length, refl, sym, subst, arith, append-nil, inl, inr}
use denote.Ref.{Bor}
use Rattle.httparse.specs.declared.spans.HeaderSpan.{HeaderSpan}
use Rattle.httparse.specs.Grammar.{RequestHead}
use Rattle.httparse.proofs.GrammarLemmas.{request_unique}
use Rattle.request_head.specs.declared.head.Fault.{Fault}
use Rattle.request_head.specs.declared.head.Fault.TheVariants.{BadRequest, Forbidden, NotFound, MethodNotAllowed, TooLarge}
use Rattle.request_head.specs.declared.head.Reading.{Reading}
use Rattle.request_head.specs.declared.head.Reading.TheVariants.{Unfinished, Taken, Refused}
use Rattle.request_head.specs.Heads.{longest_head, ReadsHead, NeverHasHead, IsBeginning}
use Rattle.request_head.specs.Judgement.{IsTaken, IsRefused, TakesHead, RefusesHead, IsFaultOf, IsTakenAt, IsReading, IsTakenWith}

pub one_head : (bytes : List ℕ) (head other : RequestHead) (rest others : List ℕ) → ReadsHead bytes head rest → ReadsHead bytes other others → head ≡ other
one_head bytes head other rest others reads again = (request_unique bytes head other rest others reads.0 again.0).0

-- a head is there, and none is
whole_once : (bytes : List ℕ) (head : RequestHead) (rest : List ℕ) → ReadsHead bytes head rest → NeverHasHead bytes → ⊥
whole_once bytes head rest reads never = never [] head rest (subst (λ (b : List ℕ). ReadsHead b head rest) (sym (append-nil bytes)) reads)

pub not_both : (names : List (Bor (List ℕ))) (method : List ℕ) (minor : ℕ) (hosts : List (List ℕ)) (fault : Fault) → IsTaken names method minor hosts → IsRefused names method minor hosts fault → ⊥
not_both names method minor hosts BadRequest taken refused = refused taken.has_host
not_both names method minor hosts Forbidden taken refused = refused.1 taken.is_sent_here
not_both names method minor hosts MethodNotAllowed taken refused = refused.2 taken.only_reads
not_both names method minor hosts NotFound taken refused = refused
not_both names method minor hosts TooLarge taken refused = refused

-- what a head is refused for
one_fault : (names : List (Bor (List ℕ))) (method : List ℕ) (minor : ℕ) (hosts : List (List ℕ)) (fault other : Fault)
    → IsRefused names method minor hosts fault → IsRefused names method minor hosts other → fault ≡ other
one_fault names method minor hosts BadRequest BadRequest f o = refl
one_fault names method minor hosts BadRequest Forbidden f o = absurd (f o.0)
one_fault names method minor hosts BadRequest MethodNotAllowed f o = absurd (f o.0)
one_fault names method minor hosts Forbidden BadRequest f o = absurd (o f.0)
one_fault names method minor hosts Forbidden Forbidden f o = refl
one_fault names method minor hosts Forbidden MethodNotAllowed f o = absurd (f.1 o.1)
one_fault names method minor hosts MethodNotAllowed BadRequest f o = absurd (o f.0)
one_fault names method minor hosts MethodNotAllowed Forbidden f o = absurd (o.1 f.1)
one_fault names method minor hosts MethodNotAllowed MethodNotAllowed f o = refl
one_fault names method minor hosts NotFound other f o = absurd f
one_fault names method minor hosts TooLarge other f o = absurd f
one_fault names method minor hosts fault NotFound f o = absurd o
one_fault names method minor hosts fault TooLarge f o = absurd o

-- a head that is there is refused for what its fault says
pub of_head : (names : List (Bor (List ℕ))) (bytes : List ℕ) (fault : Fault) (head : RequestHead) (rest : List ℕ) → ReadsHead bytes head rest
    → IsFaultOf names bytes fault → RefusesHead names head fault
of_head names bytes BadRequest head rest reads is = elim is [
  | inl never ↦ absurd (whole_once bytes head rest reads never)
  | inr other ↦ subst (λ (h : RequestHead). RefusesHead names h BadRequest) (one_head bytes other.0 head other.1 rest other.2 reads) other.3
]
of_head names bytes Forbidden head rest reads is = subst (λ (h : RequestHead). RefusesHead names h Forbidden) (one_head bytes is.0 head is.1 rest is.2 reads) is.3
of_head names bytes MethodNotAllowed head rest reads is = subst (λ (h : RequestHead). RefusesHead names h MethodNotAllowed) (one_head bytes is.0 head is.1 rest is.2 reads) is.3
of_head names bytes TooLarge head rest reads is = absurd (is.1.is_not_whole head rest reads)
of_head names bytes NotFound head rest reads is = absurd is

-- a beginning that isn't whole is refused only for its length
pub of_beginning : (names : List (Bor (List ℕ))) (bytes : List ℕ) (fault : Fault) → IsBeginning bytes → IsFaultOf names bytes fault → longest_head ≤ length bytes
of_beginning names bytes BadRequest begun is = elim is [
  | inl never ↦ absurd (never begun.begins.0 begun.begins.1 [] begun.begins.2)
  | inr other ↦ absurd (begun.is_not_whole other.0 other.1 other.2)
]
of_beginning names bytes Forbidden begun is = absurd (begun.is_not_whole is.0 is.1 is.2)
of_beginning names bytes MethodNotAllowed begun is = absurd (begun.is_not_whole is.0 is.1 is.2)
of_beginning names bytes TooLarge begun is = is.0
of_beginning names bytes NotFound begun is = absurd is

-- bytes with a head are refused for one fault
with_head : (names : List (Bor (List ℕ))) (bytes : List ℕ) (head : RequestHead) (rest : List ℕ) → ReadsHead bytes head rest
    → (fault other : Fault) → IsFaultOf names bytes fault → IsFaultOf names bytes other → fault ≡ other
with_head names bytes head rest reads fault other f o =
    one_fault names _ _ _ fault other (of_head names bytes fault head rest reads f) (of_head names bytes other head rest reads o)

-- a beginning isn't bad
not_bad : (names : List (Bor (List ℕ))) (bytes : List ℕ) → IsBeginning bytes → IsFaultOf names bytes BadRequest → ⊥
not_bad names bytes begun is = elim is [
  | inl never ↦ never begun.begins.0 begun.begins.1 [] begun.begins.2
  | inr other ↦ begun.is_not_whole other.0 other.1 other.2
]

-- a fault is told from the others
pub same_fault : (names : List (Bor (List ℕ))) (bytes : List ℕ) (fault other : Fault) → IsFaultOf names bytes fault → IsFaultOf names bytes other → fault ≡ other
same_fault names bytes BadRequest BadRequest f o = refl
same_fault names bytes TooLarge TooLarge f o = refl
same_fault names bytes BadRequest TooLarge f o = absurd (not_bad names bytes o.1 f)
same_fault names bytes TooLarge BadRequest f o = absurd (not_bad names bytes f.1 o)
same_fault names bytes Forbidden other f o = with_head names bytes f.0 f.1 f.2 Forbidden other f o
same_fault names bytes MethodNotAllowed other f o = with_head names bytes f.0 f.1 f.2 MethodNotAllowed other f o
same_fault names bytes fault Forbidden f o = with_head names bytes o.0 o.1 o.2 fault Forbidden f o
same_fault names bytes fault MethodNotAllowed f o = with_head names bytes o.0 o.1 o.2 fault MethodNotAllowed f o
same_fault names bytes NotFound other f o = absurd f
same_fault names bytes fault NotFound f o = absurd o

-- ---- readings

pub only_unfinished : (names : List (Bor (List ℕ))) (bytes : List ℕ) (spans : List HeaderSpan) (reading : Reading) → IsReading names bytes spans reading
    → length bytes < longest_head → IsBeginning bytes → reading ≡ Unfinished
only_unfinished names bytes spans Unfinished is short begun = refl
only_unfinished names bytes spans (Taken request) is short begun = absurd (begun.is_not_whole is.0 is.1.is_sound.0 is.1.is_sound.1)
only_unfinished names bytes spans (Refused fault) is short begun =
    let long = of_beginning names bytes fault begun is in absurd (omega (arith, short, long))

pub only_taken : (names : List (Bor (List ℕ))) (bytes : List ℕ) (spans : List HeaderSpan) (reading : Reading) → IsReading names bytes spans reading
    → (head : RequestHead) (rest : List ℕ) → ReadsHead bytes head rest → TakesHead names head → IsTakenWith names bytes spans head reading
only_taken names bytes spans Unfinished is head rest reads taken = is.1.is_not_whole head rest reads
only_taken names bytes spans (Taken request) is head rest reads taken =
    subst (λ (h : RequestHead). IsTakenAt names bytes spans request h) (one_head bytes is.0 head is.1.is_sound.0 rest is.1.is_sound.1 reads) is.1
only_taken names bytes spans (Refused fault) is head rest reads taken = not_both names _ _ _ fault taken (of_head names bytes fault head rest reads is)

pub only_refused : (names : List (Bor (List ℕ))) (bytes : List ℕ) (spans : List HeaderSpan) (reading : Reading) → IsReading names bytes spans reading
    → (fault : Fault) → IsFaultOf names bytes fault → reading ≡ Refused fault
only_refused names bytes spans Unfinished is fault at =
    let long = of_beginning names bytes fault is.1 at in absurd (omega (arith, is.0, long))
only_refused names bytes spans (Taken request) is fault at = absurd (not_both names _ _ _ fault is.1.is_taken (of_head names bytes fault is.0 is.1.is_sound.0 is.1.is_sound.1 at))
only_refused names bytes spans (Refused other) is fault at = let same = same_fault names bytes other fault is at in cc
