use Rattle.std.proofs.Common.{arith}
use Rattle.std.proofs.lemmas.Grind.{common_steps}
use Rattle.painter.proofs.rectangle.copy_row.Goals as goal

pub returns-then-from-count-clause-copied : goal.returns-then-from-count-clause-copied
returns-then-from-count-clause-copied c = grind (arith, common_steps)

pub returns-then-from-count-clause-below : goal.returns-then-from-count-clause-below
returns-then-from-count-clause-below c = grind (arith, common_steps)

pub returns-then-from-count-clause-following : goal.returns-then-from-count-clause-following
returns-then-from-count-clause-following c = grind (arith, common_steps)

pub returns-then-to-count-clause-below : goal.returns-then-to-count-clause-below
returns-then-to-count-clause-below c = grind (arith, common_steps)

pub returns-then-to-count-clause-following : goal.returns-then-to-count-clause-following
returns-then-to-count-clause-following c = grind (arith, common_steps)
