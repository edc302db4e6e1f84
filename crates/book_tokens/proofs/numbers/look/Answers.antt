use Rattle.std.proofs.Common.{arith}
use Rattle.book_tokens.proofs.Once.{looks}
use Rattle.book_tokens.proofs.numbers.look.Goals as goal

pub load-word-requires : goal.load-word-requires
load-word-requires c = (c.requires.table, omega (arith, c.requires.word), looks _ _ _)
