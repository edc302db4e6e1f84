use Rattle.showing.proofs.Turns.{each_message}
use Rattle.showing.proofs.Reached.{far_position, far_shown}
use Rattle.showing.proofs.laws.a_live_one_keeps_up.Goals as goal

pub returns-clause-lags_far : goal.returns-clause-lags_far
returns-clause-lags_far c = far_position

pub returns-clause-and_asks : goal.returns-clause-and_asks
returns-clause-and_asks c = far_shown

pub returns-clause-as_they_come : goal.returns-clause-as_they_come
returns-clause-as_they_come c = each_message
