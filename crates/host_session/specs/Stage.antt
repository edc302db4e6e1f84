-- How far a session is in a host's handshake.
use Rattle.std.specs.Prelude.{◌≡◌, ℕ, ◌<◌, ◌≤◌, ◌^◌, min, List, [], ◌∷◌, ◌++◌, length}
use Rattle.terms.specs.Reading.{Got, Bad}
use Rattle.host_session.specs.declared.fault.HostFault.{HostFault}
use Rattle.host_session.specs.declared.fault.HostFault.TheVariants as faults
use Rattle.host_session.specs.declared.stage.Stage.{Stage}
use Rattle.host_session.specs.declared.stage.Stage.TheVariants as stages
use Rattle.host_session.specs.declared.stage.Position.{Position}
use Rattle.host_session.specs.declared.stage.Position.TheVariants as positions
use Rattle.host_session.specs.declared.stage.Answer.{Answer}
use Rattle.host_session.specs.declared.stage.AfterField.{AfterField}
use Rattle.host_session.specs.declared.stage.Answer.TheVariants as answers
use Rattle.terms.specs.Talk.{Talk, silent, say}
use Rattle.host_session.specs.Handshake.{Told, Refusal, text_limit, version, handshake_at, count_at, types_at, outcome_at, failure_at, reason_at, size_at, head_at, name_at, rest_of_name}
use Rattle.host_session.specs.declared.expected.ExpectedScreen.{ExpectedScreen}

-- how many bytes of the field are kept
abbrev pub wants_of : Stage → ℕ
wants_of stages.Version = 12
wants_of stages.Count = 1
wants_of (stages.Types n) = n
wants_of stages.Outcome = 4
wants_of stages.ReasonLength = 4
wants_of (stages.Reason n) = min n text_limit
wants_of stages.Size = 4
wants_of (stages.Head size) = 20
wants_of (stages.Name size n) = min n text_limit

-- no more than so many fields follow
abbrev pub rank_of : Stage → ℕ
rank_of (stages.Reason n) = 1
rank_of stages.ReasonLength = 2
rank_of (stages.Name size n) = 3
rank_of (stages.Head size) = 4
rank_of stages.Size = 5
rank_of stages.Outcome = 6
rank_of (stages.Types n) = 7
rank_of stages.Count = 8
rank_of stages.Version = 9

abbrev pub rank_at : Position → ℕ
rank_at (positions.Field stage) = rank_of stage
rank_at (positions.Rest size left) = 0

-- fewer fields follow than this, and none is more than whole at its start
abbrev pub IsFurther : ℕ → Position → Type 0
IsFurther rank (positions.Field stage) = rank_of stage < rank
IsFurther rank (positions.Rest size left) = left < 2 ^ 32

-- what the bytes say from the stage's field on
unfoldable pub resume : ExpectedScreen → Stage → List ℕ → Talk Told Refusal
resume expected stages.Version bytes = handshake_at expected bytes
resume expected stages.Count bytes = count_at expected bytes
resume expected (stages.Types n) bytes = types_at expected n bytes
resume expected stages.Outcome bytes = outcome_at expected bytes
resume expected stages.ReasonLength bytes = failure_at bytes
resume expected (stages.Reason n) bytes = reason_at (min n text_limit) bytes
resume expected stages.Size bytes = size_at expected bytes
resume expected (stages.Head size) bytes = head_at size.width size.height bytes
resume expected (stages.Name size n) bytes = name_at size.width size.height n bytes

-- what the bytes that come next say, after those that are kept
abbrev pub position_at : ExpectedScreen → Position → List ℕ → List ℕ → Talk Told Refusal
position_at expected (positions.Field stage) kept more = resume expected stage (kept ++ more)
position_at expected (positions.Rest size left) kept more = rest_of_name size.width size.height kept left more

-- of a whole field, what is kept after it
abbrev pub kept_after : Position → List ℕ → List ℕ
kept_after (positions.Field stage) field = []
kept_after (positions.Rest size left) field = field

-- what a whole field is answered with
abbrev pub answer_bytes : Answer → List ℕ
answer_bytes answers.Nothing = []
answer_bytes answers.Version = version
answer_bytes answers.One = 1 ∷ []

-- the host's own reason, if it gave one
abbrev pub reason_of : HostFault → List ℕ → List ℕ
reason_of (faults.Wire f) field = []
reason_of faults.Version field = []
reason_of faults.NoneNotOffered field = []
reason_of faults.Failed field = field
reason_of faults.SizeDiffers field = []
reason_of faults.TooLarge field = []

-- the handshake ends with a fault, at this field
abbrev pub failed : HostFault → List ℕ → Talk Told Refusal
failed f field = silent (Bad (record { fault = f; reason = reason_of f field }))

-- this follows from the whole field of a stage, whatever comes
abbrev pub IsStep : ExpectedScreen → Stage → List ℕ → AfterField → Type 0
IsStep expected stage field step = (more : List ℕ)
    → resume expected stage (field ++ more) ≡ say (answer_bytes step.answer) (position_at expected step.position (kept_after step.position field) more)

-- or this fault
abbrev pub IsFault : ExpectedScreen → Stage → List ℕ → HostFault → Type 0
IsFault expected stage field f = (more : List ℕ) → resume expected stage (field ++ more) ≡ failed f field

-- From a position on, these bytes are answered with these and lead to another position, whatever
-- comes.
pub record Leads (expected : ExpectedScreen) (old : Position) (before bytes said : List ℕ) (new : Position) (after : List ℕ) : Type 0 where
  pub link : (more : List ℕ) → position_at expected old before (bytes ++ more) ≡ say said (position_at expected new after more)

-- They lead to the handshake's end, if this is told.
pub record Ends (expected : ExpectedScreen) (old : Position) (before bytes said : List ℕ) (told : Told) : Type 0 where
  pub link : (more : List ℕ) → position_at expected old before (bytes ++ more) ≡ say said (silent (Got told more))

-- They lead to a fault.
pub record Fails (expected : ExpectedScreen) (old : Position) (before bytes said : List ℕ) (f : HostFault) (field : List ℕ) : Type 0 where
  pub link : (more : List ℕ) → position_at expected old before (bytes ++ more) ≡ say said (failed f field)

-- the field isn't more than whole
abbrev pub IsWithin : Position → List ℕ → Type 0
IsWithin (positions.Field stage) kept = length kept ≤ wants_of stage
IsWithin (positions.Rest size left) kept = Unit {0}

-- the field isn't whole
abbrev pub IsUnfinished : Position → List ℕ → Type 0
IsUnfinished (positions.Field stage) kept = length kept < wants_of stage
IsUnfinished (positions.Rest size left) kept = 0 < left
