use Rattle.std.proofs.Common.{arith}
use Rattle.std.proofs.lemmas.Grind.{common_steps}
use Rattle.client_wire.proofs.partial_message.PartialMessage.take_some.Goals as goal

pub returns-in-Field-clause-moves : goal.returns-in-Field-clause-moves
returns-in-Field-clause-moves c = grind (arith, common_steps)

pub returns-in-Field-clause-faults : goal.returns-in-Field-clause-faults
returns-in-Field-clause-faults c = grind (arith, common_steps)
