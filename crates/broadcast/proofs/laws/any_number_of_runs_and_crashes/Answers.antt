use Rattle.broadcast.proofs.Lives.{nothing_ever_lost}
use Rattle.broadcast.proofs.laws.any_number_of_runs_and_crashes.Goals as goal

pub returns : goal.returns
returns c = nothing_ever_lost
