use Rattle.showing.proofs.PlayRows.{shown_when_due, sleeps_until_due, played_waits}
use Rattle.showing.proofs.laws.nothing_is_early.Goals as goal

pub returns-clause-shown : goal.returns-clause-shown
returns-clause-shown c = shown_when_due

pub returns-clause-sleeps : goal.returns-clause-sleeps
returns-clause-sleeps c = sleeps_until_due

pub returns-clause-waits : goal.returns-clause-waits
returns-clause-waits c = played_waits
