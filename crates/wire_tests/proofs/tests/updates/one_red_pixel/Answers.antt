use Rattle.std.proofs.Common.{arith}
use Rattle.std.proofs.lemmas.Grind.{common_steps}
use Rattle.wire_tests.proofs.tests.updates.one_red_pixel.Goals as goal

pub loop-encoding-smaller : goal.loop-encoding-smaller
loop-encoding-smaller c = grind (arith, common_steps)
