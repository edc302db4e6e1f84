use Rattle.std.proofs.Common.{◌+◌, ◌∙◌, ap, subst, arith}
use Rattle.timeline.specs.Timeline.{counted, IsFollowed, Told}
use Rattle.timeline.proofs.Told.{tells_of_more}
use Rattle.timeline.proofs.timeline.Timeline.add.Goals as goal

pub returns-then-is_told-clause-told : goal.returns-then-is_told-clause-told
returns-then-is_told-clause-told c = λ is from blocks told.
    let new : Told = record { every = c.self.inside.every; stretches = c.follow.new.stretches.items; next = c.saturating_add-self-inside.result } in
    tells_of_more from blocks c.args.self.now new c.args.block (omega arith) (ap (λ (t : Told). t.every) c.self.view_is)
    (c.saturating_add-self-inside.ensures ∙ ap (λ (t : Told). counted (t.next + 1)) c.self.view_is)
    (subst (λ (t : Told). IsFollowed t.every t.stretches t.next c.args.block c.follow.new.stretches.items) c.self.view_is (c.in_ok-is_told.ensures.followed is)) told
