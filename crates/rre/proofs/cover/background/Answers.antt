use Rattle.rre.proofs.Majority.{counted_majority}
use Rattle.rre.proofs.cover.background.Goals as goal

pub returns-in-Some-clause-majority : goal.returns-in-Some-clause-majority
returns-in-Some-clause-majority c = counted_majority c.args.numbers.now c.in-Some.index c.in-Some.ensures.frequent
