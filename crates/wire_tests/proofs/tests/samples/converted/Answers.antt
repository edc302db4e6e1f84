use Rattle.std.proofs.Common.{arith}
use Rattle.std.proofs.lemmas.Grind.{common_steps}
use Rattle.wire_tests.proofs.tests.samples.converted.Goals as goal

pub loop-color-preserved : goal.loop-color-preserved
loop-color-preserved c = grind (arith, common_steps)
