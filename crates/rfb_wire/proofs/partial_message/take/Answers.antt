use Rattle.std.proofs.Common.{arith}
use Rattle.std.proofs.lemmas.Grind.{common_steps}
use Rattle.rfb_wire.proofs.partial_message.take.Goals as goal

pub returns-clause-ends : goal.returns-clause-ends
returns-clause-ends c = grind (arith, common_steps)

pub returns-clause-short : goal.returns-clause-short
returns-clause-short c = grind (arith, common_steps)
