use Rattle.showing.proofs.PlayRows.{played_again}
use Rattle.showing.proofs.laws.only_something_is_played_again.Goals as goal

pub returns : goal.returns
returns c = played_again
