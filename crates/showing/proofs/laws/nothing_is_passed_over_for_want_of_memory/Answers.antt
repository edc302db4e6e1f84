use Rattle.showing.proofs.Passing.{tried_again}
use Rattle.showing.proofs.laws.nothing_is_passed_over_for_want_of_memory.Goals as goal

pub returns : goal.returns
returns c = tried_again
