use Rattle.client_wire.proofs.Turns.{at_start}
use Rattle.client_wire.proofs.partial_message.PartialMessage.new.Goals as goal

pub returns-clause-at : goal.returns-clause-at
returns-clause-at c = at_start c.new.result.items c.new.ensures.items
