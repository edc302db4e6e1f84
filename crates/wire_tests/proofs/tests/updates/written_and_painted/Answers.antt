use Rattle.std.proofs.Common.{arith}
use Rattle.std.proofs.lemmas.Grind.{common_steps}
use Rattle.wire_tests.proofs.tests.updates.written_and_painted.Goals as goal

pub loop-bytes-smaller : goal.loop-bytes-smaller
loop-bytes-smaller c = grind (arith, common_steps)
