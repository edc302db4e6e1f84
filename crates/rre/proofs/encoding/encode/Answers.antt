use Rattle.std.proofs.Common.{arith}
use Rattle.std.proofs.lemmas.Grind.{common_steps}
use Rattle.rre.proofs.encoding.encode.Goals as goal

pub invariant_of-pixels : goal.invariant_of-pixels
invariant_of-pixels c = grind (arith, common_steps)

pub prove-unreachable-requires : goal.prove-unreachable-requires
prove-unreachable-requires c = grind (arith, common_steps)
