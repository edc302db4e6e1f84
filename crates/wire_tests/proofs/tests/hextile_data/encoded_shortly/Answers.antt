use Rattle.std.proofs.Common.{arith}
use Rattle.std.proofs.lemmas.Grind.{common_steps}
use Rattle.wire_tests.proofs.tests.hextile_data.encoded_shortly.Goals as goal

pub loop-row-smaller : goal.loop-row-smaller
loop-row-smaller c = grind (arith, common_steps)
