use Rattle.showing.proofs.Reached.{live_goes_on, other_ends, unread_position, unread_shown}
use Rattle.showing.proofs.laws.a_failing_device_ends_no_live_one.Goals as goal

pub returns-clause-goes_on : goal.returns-clause-goes_on
returns-clause-goes_on c = live_goes_on

pub returns-clause-ends : goal.returns-clause-ends
returns-clause-ends c = other_ends

pub returns-clause-newest : goal.returns-clause-newest
returns-clause-newest c = unread_position

pub returns-clause-and_asks : goal.returns-clause-and_asks
returns-clause-and_asks c = unread_shown
