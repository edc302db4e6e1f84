use Rattle.client_wire.specs.Grammar.{message_at}
use Rattle.client_wire.proofs.Local.{message_local}
use Rattle.client_wire.proofs.Streams.{waits_begins_none, fault_begins_none}
use Rattle.client_wire.proofs.laws.a_rest_begins_none.Goals as goal

pub returns-clause-waits : goal.returns-clause-waits
returns-clause-waits c = waits_begins_none message_at message_local

pub returns-clause-fault : goal.returns-clause-fault
returns-clause-fault c = fault_begins_none message_at message_local
