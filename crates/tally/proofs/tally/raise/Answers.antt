use Rattle.std.proofs.Common.{arith}
use Rattle.tally.proofs.Keeping.{raises}
use Rattle.tally.proofs.tally.raise.Goals as goal

pub fetch_add-word-requires : goal.fetch_add-word-requires
fetch_add-word-requires c = (c.requires.table, omega (arith, c.requires.word), raises _ _ c.args.count _ c.requires.both)
