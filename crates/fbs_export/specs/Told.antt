-- What a stream tells, of whose messages a tally is kept. `keeps` says which messages a tally stands
-- for: those that have their times, and those that wait.
use Rattle.std.specs.Prelude.{ℕ, List, []}
use Rattle.rfb_wire.specs.Host.{Host}
use Rattle.keyed_entries.specs.declared.entry.Stamped.{Stamped}
use Rattle.fbs_export.specs.declared.stream.Told.{Told}
use Rattle.fbs_export.specs.Summary.{Said, Tells, IsSummary}

-- what is told, with these messages instead of the tally
abbrev pub said_of : {T : Type 0} → Told T → List Stamped → Said
said_of told messages = record {
  opening = record { width = told.size.width; height = told.size.height; name = told.name.items };
  messages = messages;
  rest = told.rest;
}

-- The stream tells this, and the tally stands for its messages; none waits.
pub record IsTold {T : Type 0} (keeps : T → List Stamped → List Host → Type 0) (stream times : List ℕ) (told : Told T) : Type 0 where
  pub messages : List Stamped
  pub tally : keeps told.tally messages []
  pub tells : Tells stream times (said_of told messages)

-- The file says this, and the tally stands for its messages.
pub record Says {T : Type 0} (keeps : T → List Stamped → List Host → Type 0) (file : List ℕ) (told : Told T) : Type 0 where
  pub messages : List Stamped
  pub tally : keeps told.tally messages []
  pub is : IsSummary file (said_of told messages)
