use Rattle.book_tokens.proofs.Once.{begins}
use Rattle.book_tokens.proofs.numbers.Counter.new.Goals as goal

pub of_words-requires : goal.of_words-requires
of_words-requires g = begins
