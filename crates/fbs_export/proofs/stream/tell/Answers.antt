use Rattle.std.proofs.Common.{◌++◌, [], ◌∷◌, sym, ap, ◌∙◌, append_assoc}
use Rattle.std.specs.Vec.Iter.{into_iter_items}
use Rattle.fbs_export.proofs.stream.tell.Goals as goal

pub loop-message-preserved : goal.loop-message-preserved
loop-message-preserved g c =
    let before = c.loop-message.invariant.2 in
    let so_far = c.loop-message.yielded in (
      tt,
      tt,
      record {
        rest = append_assoc so_far (c.in-Some.message ∷ []) (into_iter_items c.next.new.self) ∙ ap (λ z. so_far ++ z) (sym c.in-Some.ensures.steps.0) ∙ before.rest;
        heard = λ told waiting stands. rw append_assoc at (c.in_ok-hear.ensures told (waiting ++ so_far) (before.heard told waiting stands));
      },
    )
