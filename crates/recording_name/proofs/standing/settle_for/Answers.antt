use Rattle.recording_name.proofs.SettledFor.{settled_for}
use Rattle.recording_name.proofs.standing.settle_for.Goals as goal

pub returns-in-Ok-clause-settled : goal.returns-in-Ok-clause-settled
returns-in-Ok-clause-settled g c m = settled_for c.in-Ok.settled c.args.access c.args.path.now _ _ _ (c.in-Ok.ensures.settled m) (c.in-Ok.ensures.whole m)
