use Rattle.broadcast.proofs.Lives.{run_then, lost_then, made_at_rest, handed_for_good}
use Rattle.broadcast.proofs.laws.runs_go_on.Goals as goal

pub returns-clause-run : goal.returns-clause-run
returns-clause-run c = run_then

pub returns-clause-headline : goal.returns-clause-headline
returns-clause-headline c = lost_then

pub returns-clause-at_rest : goal.returns-clause-at_rest
returns-clause-at_rest c = made_at_rest

pub returns-clause-handed : goal.returns-clause-handed
returns-clause-handed c = handed_for_good
