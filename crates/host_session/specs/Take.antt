-- What becomes of a piece in a host's handshake.
use Rattle.std.specs.Prelude.{◌≡◌, ℕ, ◌<◌, ◌≤◌, List, ◌++◌, length, take, Option, Some, None}
use Rattle.host_session.specs.declared.fault.HostFault.{HostFault}
use Rattle.host_session.specs.declared.handshake.Handshake.{Handshake}
use Rattle.host_session.specs.declared.handshake.Taking.{Taking}
use Rattle.host_session.specs.declared.handshake.Whole.{Whole as TakenWhole}
use Rattle.host_session.specs.declared.handshake.Taking.TheVariants as turns
use Rattle.host_session.specs.Fault.{UnlessMemory}
use Rattle.host_session.specs.Handshake.{Told, first_requests}
use Rattle.host_session.specs.Stage.{rank_at, IsWithin, IsUnfinished, Leads, Ends, Fails}
use Rattle.host_session.specs.declared.expected.ExpectedScreen.{ExpectedScreen}

-- what is due is more by this
pub record Says (P : List ℕ → Type 0) (before after : List ℕ) : Type 0 where
  pub said : List ℕ
  pub due : after ≡ before ++ said
  pub is : P said

abbrev pub told_at : ℕ → ℕ → List ℕ → Told
told_at width height name = record { width = width; height = height; name = name }

-- the whole piece is taken, and the field isn't whole
pub record Waits (expected : ExpectedScreen) (old new : Handshake) (piece before after : List ℕ) : Type 0 where
  pub leads : Says (λ said. Leads expected old.position old.kept.items piece said new.position new.kept.items) before after
  pub unfinished : IsUnfinished new.position new.kept.items

pub record Goes (expected : ExpectedScreen) (old new : Handshake) (n : ℕ) (piece before after : List ℕ) : Type 0 where
  pub some : n ≤ length piece
  pub leads : Says (λ said. Leads expected old.position old.kept.items (take n piece) said new.position new.kept.items) before after
  pub falls : rank_at new.position < rank_at old.position
  pub within : IsWithin new.position new.kept.items

-- the handshake is whole; the first requests aren't written yet
pub record Whole (expected : ExpectedScreen) (old new : Handshake) (n width height : ℕ) (piece before after : List ℕ) : Type 0 where
  pub some : n ≤ length piece
  pub ends : Says (λ said. Ends expected old.position old.kept.items (take n piece) (said ++ first_requests width height) (told_at width height new.kept.items)) before after

abbrev pub IsTaking : ExpectedScreen → Handshake → Handshake → List ℕ → List ℕ → List ℕ → Taking → Type 0
IsTaking expected old new piece before after turns.Waits = Waits expected old new piece before after
IsTaking expected old new piece before after (turns.Goes n) = Goes expected old new n piece before after
IsTaking expected old new piece before after (turns.Whole n size) = Whole expected old new n size.width size.height piece before after

abbrev pub IsTaken : ExpectedScreen → Handshake → Handshake → List ℕ → List ℕ → List ℕ → Option TakenWhole → Type 0
IsTaken expected old new piece before after None = Waits expected old new piece before after
IsTaken expected old new piece before after (Some w) = Whole expected old new w.taken w.size.width w.size.height piece before after

-- unless memory ran out, a fault stands in the piece
pub record IsRefused (expected : ExpectedScreen) (old new : Handshake) (piece before after : List ℕ) (f : HostFault) : Type 0 where
  pub fault : UnlessMemory f (Says (λ said. Fails expected old.position old.kept.items piece said f new.kept.items) before after)
