use Rattle.std.proofs.Common.{arith}
use Rattle.std.proofs.lemmas.Grind.{common_steps}
use Rattle.viewer_tests.proofs.tests.handshakes.Goals as goal

pub loop-answer-smaller : goal.loop-answer-smaller
loop-answer-smaller c = grind (arith, common_steps)

pub loop-piece-smaller : goal.loop-piece-smaller
loop-piece-smaller c = grind (arith, common_steps)
