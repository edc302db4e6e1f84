-- What the bytes of a browser's connection are.
use Rattle.std.specs.Prelude.{◌≡◌, ◌≢◌, ◌⊎◌, ◌<◌, ℕ, List, [], length, Ok, Err}
use denote.Ref.{Bor}
use Rattle.httparse.specs.Grammar.{RequestHead}
use Rattle.request_head.specs.declared.head.Fault.TheVariants.{BadRequest, Forbidden, NotFound, MethodNotAllowed, TooLarge}
use Rattle.request_head.specs.Fields.{Fields, fields_of}
use Rattle.request_head.specs.Heads.{front_of, longest_head, IsBeginning, ReadsHead}
use Rattle.request_head.specs.Judgement.{IsFaultOf, TakesHead}
use Rattle.web_target.specs.declared.asked.Asked.{Asked}
use Rattle.web_target.specs.declared.asked.Asked.TheVariants.{Watch}
use Rattle.web_target.specs.declared.asked.Beginning.{Beginning}
use Rattle.web_target.specs.Targets.{IsTargetOf}
use Rattle.web_door.specs.declared.request.Judged.{Judged}
use Rattle.web_door.specs.declared.request.Judged.TheVariants as Is
use Rattle.web_door.specs.declared.request.Refusal.{Refusal}
use Rattle.web_door.specs.declared.request.Refusal.TheVariants.{Head, NoUpgrade, Foreign, Early}
use Rattle.web_door.specs.declared.upgrade.NotUpgraded.{NotUpgraded}
use Rattle.web_door.specs.declared.upgrade.NotUpgraded.TheVariants as cause
use Rattle.web_door.specs.Upgrades.{IsAnswered}

-- they begin with a head that is taken, and a rest, of which this holds
abbrev pub Begin : List (Bor (List ℕ)) → List ℕ → (RequestHead → List ℕ → Type 0) → Type 0
Begin names bytes P = (head : RequestHead) × (rest : List ℕ) × ReadsHead bytes head rest × TakesHead names head × P head rest

-- it isn't for a viewer's connection
abbrev pub IsPlain : Asked → Type 0
IsPlain asked = (beginning : Beginning) → asked ≢ Watch beginning

-- it is for a viewer's connection, which is refused for this
abbrev pub IsUnanswered : RequestHead → NotUpgraded → Type 0
IsUnanswered head why = ((beginning : Beginning) × IsTargetOf (Watch beginning) head.target) × IsAnswered head.method head.minor (fields_of head) (Err why)

-- it is for a viewer's connection, which is answered by this
abbrev pub IsForViewer : RequestHead → Beginning → List ℕ → Type 0
IsForViewer head beginning answer = IsTargetOf (Watch beginning) head.target × IsAnswered head.method head.minor (fields_of head) (Ok answer)

-- Why they are refused: for the head, for what it asks for, and last for how.
abbrev pub IsRefusal : List (Bor (List ℕ)) → List ℕ → Refusal → Type 0
IsRefusal names front (Head BadRequest) = IsFaultOf names front BadRequest
IsRefusal names front (Head Forbidden) = IsFaultOf names front Forbidden
IsRefusal names front (Head MethodNotAllowed) = IsFaultOf names front MethodNotAllowed
IsRefusal names front (Head TooLarge) = IsFaultOf names front TooLarge
IsRefusal names front (Head NotFound) = Begin names front (λ head rest. (asked : Asked) → IsTargetOf asked head.target → ⊥)
IsRefusal names front NoUpgrade = Begin names front (λ head rest. IsUnanswered head cause.NoUpgrade)
IsRefusal names front Foreign = Begin names front (λ head rest. IsUnanswered head cause.Foreign)
IsRefusal names front Early = Begin names front (λ head rest. (rest ≢ []) × ((beginning : Beginning) × (answer : List ℕ) × IsForViewer head beginning answer))

-- what such a front is
abbrev pub IsJudgedBy : List (Bor (List ℕ)) → List ℕ → Judged → Type 0
IsJudgedBy names front Is.Unfinished = (length front < longest_head) × IsBeginning front
IsJudgedBy names front (Is.Asked asked) = IsPlain asked × Begin names front (λ head rest. IsTargetOf asked head.target)
IsJudgedBy names front (Is.Watch beginning answer) = Begin names front (λ head rest. (rest ≡ []) × IsForViewer head beginning answer)
IsJudgedBy names front (Is.Refused refusal) = IsRefusal names front refusal

-- what they are
abbrev pub IsJudged : List (Bor (List ℕ)) → List ℕ → Judged → Type 0
IsJudged names bytes judged = IsJudgedBy names (front_of bytes) judged

-- ---- of the spans of a request

-- what a request for a viewer's connection is judged, of which all the bytes are, or not
abbrev pub IsViewers : Beginning → List ℕ → ℕ → Fields → Type 0 → Judged → Type 0
IsViewers beginning method minor fields is_all Is.Unfinished = ⊥
IsViewers beginning method minor fields is_all (Is.Asked asked) = ⊥
IsViewers beginning method minor fields is_all (Is.Watch begins answer) = (begins ≡ beginning) × is_all × IsAnswered method minor fields (Ok answer)
IsViewers beginning method minor fields is_all (Is.Refused (Head fault)) = ⊥
IsViewers beginning method minor fields is_all (Is.Refused NoUpgrade) = IsAnswered method minor fields (Err cause.NoUpgrade)
IsViewers beginning method minor fields is_all (Is.Refused Foreign) = IsAnswered method minor fields (Err cause.Foreign)
IsViewers beginning method minor fields is_all (Is.Refused Early) = (is_all → ⊥) × ((answer : List ℕ) × IsAnswered method minor fields (Ok answer))

-- what a request that is taken is judged
abbrev pub IsRequests : List ℕ → List ℕ → ℕ → Fields → Type 0 → Judged → Type 0
IsRequests method target minor fields is_all judged =
    ((asked : Asked) × IsPlain asked × IsTargetOf asked target × (judged ≡ Is.Asked asked))
    ⊎ (((beginning : Beginning) × IsTargetOf (Watch beginning) target × IsViewers beginning method minor fields is_all judged)
    ⊎ (((asked : Asked) → IsTargetOf asked target → ⊥) × (judged ≡ Is.Refused (Head NotFound))))
