use Rattle.client_wire.proofs.Streams.{waits_begins_none, fault_begins_none}
use Rattle.rfb_wire.specs.Grammar.{message_at}
use Rattle.rfb_wire.proofs.Local.{message_local}
use Rattle.rfb_wire.proofs.laws.a_rest_begins_none.Goals as goal

pub returns-clause-waits : goal.returns-clause-waits
returns-clause-waits c = λ limit width height. waits_begins_none (message_at limit width height) (message_local limit width height)

pub returns-clause-fault : goal.returns-clause-fault
returns-clause-fault c = λ limit width height. fault_begins_none (message_at limit width height) (message_local limit width height)
