use Rattle.std.proofs.Common.{arith}
use Rattle.std.proofs.lemmas.Grind.{common_steps}
use Rattle.viewer_tests.proofs.tests.faults.Goals as goal

pub loop-piece-smaller : goal.loop-piece-smaller
loop-piece-smaller c = grind (arith, common_steps)
