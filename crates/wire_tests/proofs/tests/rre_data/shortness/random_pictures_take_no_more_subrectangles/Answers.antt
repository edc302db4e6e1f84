use Rattle.std.proofs.Common.{arith}
use Rattle.std.proofs.lemmas.Grind.{common_steps}
use Rattle.wire_tests.proofs.tests.rre_data.shortness.random_pictures_take_no_more_subrectangles.Goals as goal

pub loop-kind-smaller : goal.loop-kind-smaller
loop-kind-smaller c = grind (arith, common_steps)
