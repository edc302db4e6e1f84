use Rattle.showing.proofs.Reached.{reached_all, reached_ends}
use Rattle.showing.proofs.laws.all_is_shown_at_the_end.Goals as goal

pub returns-clause-was_shown : goal.returns-clause-was_shown
returns-clause-was_shown c = reached_all

pub returns-clause-is_shown : goal.returns-clause-is_shown
returns-clause-is_shown c = reached_ends
