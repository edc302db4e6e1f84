use Rattle.std.proofs.Common.{◌≡◌, ◌++◌, [], ◌∷◌, List, length, refl, sym, ap, ◌∙◌, append-nil, arith}
use Rattle.std.proofs.lemmas.Grind.{common_steps}
use Rattle.std.specs.Vec.Iter.{into_iter_items}
use Rattle.fbs_export.specs.Summary.{at_time}
use Rattle.fbs_export.proofs.tally.KeptTally.stamp.Goals as goal

no_items : {A : Type 0} (xs : List A) → length xs ≡ 0 → xs ≡ []
no_items [] e = refl
no_items (x ∷ xs) e = absurd (omega arith)

pub returns : goal.returns
returns c = λ told waiting kept.
    let inv = c.loop-message.invariant.2 in
    let none : into_iter_items c.loop-message.message-iterator ≡ [] = no_items (into_iter_items c.loop-message.message-iterator) (omega (arith, c.in-None.ensures.steps.0, c.loop-message.message-iterator.rest.ok.0)) in
    let all : c.loop-message.yielded ≡ waiting = sym (append-nil c.loop-message.yielded) ∙ ap (λ z. c.loop-message.yielded ++ z) (sym none) ∙ inv.rest ∙ kept.1 in
    (inv.messages ∙ ap (λ z. z ++ at_time c.args.time c.loop-message.yielded) kept.0 ∙ ap (λ z. told ++ at_time c.args.time z) all, inv.waiting)

pub loop-message-preserved : goal.loop-message-preserved
loop-message-preserved c = grind (arith, common_steps)
