use Rattle.std.proofs.Common.{get_or, arith}
use Rattle.std.proofs.lemmas.Grind.{common_steps}
use Rattle.rre.proofs.Numbers.{majority_color}
use Rattle.rre.proofs.encoding.background_number.Goals as goal

pub returns-clause-majority : goal.returns-clause-majority
returns-clause-majority c =
    majority_color c.args.format.now c.args.numbers.now (get_or c.args.numbers.now c.background.result 0) c.requires c.background.ensures.majority

pub returns-then-is_empty-clause-majority : goal.returns-then-is_empty-clause-majority
returns-then-is_empty-clause-majority c = grind (arith, common_steps)
