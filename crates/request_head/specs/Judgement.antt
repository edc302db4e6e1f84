-- What a head is answered, by whoever has only names of its own and is only read.
use Rattle.std.specs.Prelude.{◌≡◌, ◌⊎◌, ℕ, ◌<◌, ◌≤◌, List, [], ◌∷◌, length, All, codes, Option, None, Some, Result, Ok, Err}
use Rattle.httparse.specs.declared.spans.HeaderSpan.{HeaderSpan}
use Rattle.httparse.specs.declared.spans.RequestSpans.{RequestSpans}
use Rattle.httparse.specs.Grammar.{RequestHead}
use Rattle.httparse.specs.Spans.{IsRequestAt, IsRequestWithin}
use denote.Ref.{Bor}
use Rattle.request_head.specs.declared.head.Fault.{Fault}
use Rattle.request_head.specs.declared.head.Fault.TheVariants.{BadRequest, Forbidden, NotFound, MethodNotAllowed, TooLarge}
use Rattle.request_head.specs.declared.head.Reading.{Reading}
use Rattle.request_head.specs.declared.head.Reading.TheVariants.{Unfinished, Taken, Refused}
use Rattle.request_head.specs.Fields.{fields_of, values_of}
use Rattle.request_head.specs.Heads.{longest_head, ReadsHead, NeverHasHead, IsBeginning}
use Rattle.request_head.specs.Hosts.{IsAllowed}

-- one Host field, which a request of HTTP/1.0 may lack (RFC 9112, section 3.2)
abbrev pub HasItsHost : ℕ → List (List ℕ) → Type 0
HasItsHost minor [] = minor ≡ 0
HasItsHost minor (host ∷ others) = others ≡ []

-- what was found of the Host fields with these values
abbrev pub AreHostsOf : ℕ → List (List ℕ) → Result (Option (Bor (List ℕ))) Fault → Type 0
AreHostsOf minor hosts (Ok None) = (hosts ≡ []) × (minor ≡ 0)
AreHostsOf minor hosts (Ok (Some host)) = hosts ≡ host.now ∷ []
AreHostsOf minor hosts (Err fault) = (fault ≡ BadRequest) × (HasItsHost minor hosts → ⊥)

-- the values of a head's Host fields
abbrev pub hosts_of : RequestHead → List (List ℕ)
hosts_of head = values_of (codes "Host") (fields_of head)

-- the method asks for something, or for its head alone, and changes nothing (RFC 9110, sections 9.3.1 and 9.3.2)
abbrev pub OnlyReads : List ℕ → Type 0
OnlyReads method = (method ≡ codes "GET") ⊎ (method ≡ codes "HEAD")

-- a request for a server with these names is taken
pub record IsTaken (names : List (Bor (List ℕ))) (method : List ℕ) (minor : ℕ) (hosts : List (List ℕ)) : Type 0 where
  pub has_host : HasItsHost minor hosts
  pub is_sent_here : All (IsAllowed names) hosts
  pub only_reads : OnlyReads method

-- Why a whole head is refused: first for its Host fields, then for what they name, and then for its
-- method.
abbrev pub IsRefused : List (Bor (List ℕ)) → List ℕ → ℕ → List (List ℕ) → Fault → Type 0
IsRefused names method minor hosts BadRequest = HasItsHost minor hosts → ⊥
IsRefused names method minor hosts Forbidden = HasItsHost minor hosts × (All (IsAllowed names) hosts → ⊥)
IsRefused names method minor hosts MethodNotAllowed = HasItsHost minor hosts × All (IsAllowed names) hosts × (OnlyReads method → ⊥)
IsRefused names method minor hosts NotFound = ⊥
IsRefused names method minor hosts TooLarge = ⊥

-- the same of a head
abbrev pub TakesHead : List (Bor (List ℕ)) → RequestHead → Type 0
TakesHead names head = IsTaken names head.method head.minor (hosts_of head)

abbrev pub RefusesHead : List (Bor (List ℕ)) → RequestHead → Fault → Type 0
RefusesHead names head fault = IsRefused names head.method head.minor (hosts_of head) fault

-- the bytes begin with a sound head of which this holds
abbrev pub BeginWith : List ℕ → (RequestHead → Type 0) → Type 0
BeginWith bytes P = (head : RequestHead) × (rest : List ℕ) × ReadsHead bytes head rest × P head

-- why bytes are refused
abbrev pub IsFaultOf : List (Bor (List ℕ)) → List ℕ → Fault → Type 0
IsFaultOf names bytes BadRequest = NeverHasHead bytes ⊎ BeginWith bytes (λ head. RefusesHead names head BadRequest)
IsFaultOf names bytes Forbidden = BeginWith bytes (λ head. RefusesHead names head Forbidden)
IsFaultOf names bytes MethodNotAllowed = BeginWith bytes (λ head. RefusesHead names head MethodNotAllowed)
IsFaultOf names bytes TooLarge = (longest_head ≤ length bytes) × IsBeginning bytes
IsFaultOf names bytes NotFound = ⊥

-- the spans cover the parts of this head, with which the bytes begin, and it is taken
pub record IsTakenAt (names : List (Bor (List ℕ))) (bytes : List ℕ) (spans : List HeaderSpan) (request : RequestSpans) (head : RequestHead) : Type 0 where
  pub covers : IsRequestAt bytes spans request head
  pub is_within : IsRequestWithin bytes spans request
  pub is_sound : (rest : List ℕ) × ReadsHead bytes head rest
  pub is_taken : TakesHead names head

-- what bytes are read as
abbrev pub IsReading : List (Bor (List ℕ)) → List ℕ → List HeaderSpan → Reading → Type 0
IsReading names bytes spans Unfinished = (length bytes < longest_head) × IsBeginning bytes
IsReading names bytes spans (Taken request) = (head : RequestHead) × IsTakenAt names bytes spans request head
IsReading names bytes spans (Refused fault) = IsFaultOf names bytes fault

-- it is a request that is taken, and this is its head
abbrev pub IsTakenWith : List (Bor (List ℕ)) → List ℕ → List HeaderSpan → RequestHead → Reading → Type 0
IsTakenWith names bytes spans head Unfinished = ⊥
IsTakenWith names bytes spans head (Taken request) = IsTakenAt names bytes spans request head
IsTakenWith names bytes spans head (Refused fault) = ⊥
