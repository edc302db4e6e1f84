use Rattle.std.proofs.Common.{arith}
use Rattle.std.proofs.lemmas.Grind.{common_steps}
use Rattle.viewer_session.proofs.update.parts_of.Goals as goal

pub loop-copy-preserved : goal.loop-copy-preserved
loop-copy-preserved c = grind (arith, common_steps)

pub loop-area-init : goal.loop-area-init
loop-area-init c = grind (arith, common_steps)

pub loop-area-preserved : goal.loop-area-preserved
loop-area-preserved c = grind (arith, common_steps)

pub returns : goal.returns
returns c = grind (arith, common_steps)
