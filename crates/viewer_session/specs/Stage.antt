-- How far a viewer's handshake goes.
use Rattle.std.specs.Prelude.{ℕ, List, [], ◌++◌}
use Rattle.terms.specs.Reading.{Reading, Got, More, Bad}
use Rattle.terms.specs.Talk.{Talk}
use Rattle.viewer_session.specs.declared.fault.SessionFault.{SessionFault}
use Rattle.viewer_session.specs.declared.fault.SessionFault.TheVariants as faults
use Rattle.viewer_session.specs.declared.handshake.Stage.{Stage}
use Rattle.viewer_session.specs.declared.handshake.Stage.TheVariants as stages
use Rattle.viewer_session.specs.Handshake.{version, no_version, none_offered, ok, no_type, server_init}

-- what is said up to a stage, but for ServerInit
abbrev pub greeting_of : Stage → List ℕ
greeting_of stages.Version = version
greeting_of stages.OtherVersion = version ++ no_version
greeting_of stages.Choice = version ++ none_offered
greeting_of stages.OtherType = version ++ (none_offered ++ no_type)
greeting_of stages.Flag = version ++ (none_offered ++ ok)
greeting_of stages.Whole = version ++ (none_offered ++ ok)

-- ServerInit, once the handshake is whole
abbrev pub init_of : ℕ → ℕ → List ℕ → Stage → List ℕ
init_of width height name stages.Version = []
init_of width height name stages.OtherVersion = []
init_of width height name stages.Choice = []
init_of width height name stages.OtherType = []
init_of width height name stages.Flag = []
init_of width height name stages.Whole = server_init width height name

abbrev pub said_at : ℕ → ℕ → List ℕ → Stage → List ℕ
said_at width height name stage = greeting_of stage ++ init_of width height name stage

-- what is heard of it, if nothing follows
abbrev pub heard_at : Stage → Reading (Unit {0}) SessionFault
heard_at stages.Version = More
heard_at stages.OtherVersion = Bad faults.Version
heard_at stages.Choice = More
heard_at stages.OtherType = Bad faults.Security
heard_at stages.Flag = More
heard_at stages.Whole = Got tt []

abbrev pub talk_at : ℕ → ℕ → List ℕ → Stage → Talk (Unit {0}) SessionFault
talk_at width height name stage = record { said = said_at width height name stage; heard = heard_at stage }
