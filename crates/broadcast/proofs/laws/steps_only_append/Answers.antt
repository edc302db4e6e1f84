use Rattle.broadcast.proofs.Appending.{step_appends}
use Rattle.broadcast.proofs.laws.steps_only_append.Goals as goal

pub returns-clause-grows : goal.returns-clause-grows
returns-clause-grows c = λ head old step reply new is. (step_appends head old step reply new is).grows

pub returns-clause-accepted : goal.returns-clause-accepted
returns-clause-accepted c = λ head old step reply new is. (step_appends head old step reply new is).counted
