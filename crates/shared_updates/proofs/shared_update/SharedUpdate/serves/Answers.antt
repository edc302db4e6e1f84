use Rattle.shared_updates.proofs.Serving.{known_serves}
use Rattle.shared_updates.proofs.shared_update.SharedUpdate.serves.Goals as goal

pub returns-then-is_for : goal.returns-then-is_for
returns-then-is_for c = λ t.
    known_serves c.args.self.now c.args.wanted c.args.snapshot.now c.known.ensures (c.is_for.ensures c.if-is_for.true) (c.shows_same.ensures t)
