use Rattle.std.proofs.Common.{arith}
use Rattle.std.proofs.lemmas.Grind.{common_steps}
use Rattle.viewer_tests.proofs.tests.encodings.Goals as goal

pub loop-lists-smaller : goal.loop-lists-smaller
loop-lists-smaller c = grind (arith, common_steps)
