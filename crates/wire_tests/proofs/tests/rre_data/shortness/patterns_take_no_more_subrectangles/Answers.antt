use Rattle.std.proofs.Common.{arith}
use Rattle.std.proofs.lemmas.Grind.{common_steps}
use Rattle.wire_tests.proofs.tests.rre_data.shortness.patterns_take_no_more_subrectangles.Goals as goal

pub loop-name-smaller : goal.loop-name-smaller
loop-name-smaller c = grind (arith, common_steps)
