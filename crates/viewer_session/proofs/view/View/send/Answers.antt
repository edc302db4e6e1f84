use Rattle.std.proofs.Common.{arith}
use Rattle.std.proofs.lemmas.Grind.{common_steps}
use Rattle.viewer_session.proofs.Answered.{sent_within}
use Rattle.viewer_session.proofs.view.View.send.Goals as goal

pub give_update-requires-clause-within : goal.give_update-requires-clause-within
give_update-requires-clause-within g c =
    let v = c.args.self.now in
    rw c.deref.ensures.value (sent_within v.stale v.screen.width v.screen.height c.args.pending c.in_ok-areas.areas.items c.requires.pending c.in_ok-areas.ensures)

pub returns-then-is_empty-2-clause-ok : goal.returns-then-is_empty-2-clause-ok
returns-then-is_empty-2-clause-ok g c = grind (arith, common_steps)
