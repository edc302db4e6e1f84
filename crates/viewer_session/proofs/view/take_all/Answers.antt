use Rattle.std.proofs.Common.{◌≡◌, ◌++◌, [], ◌∷◌, length, arith, refl, sym, ap, ◌∙◌, List, append-nil, append_assoc, subst}
use Rattle.std.specs.Vec.Iter.{into_iter_items}
use Rattle.client_wire.specs.declared.message.ClientMessage.{ClientMessage}
use Rattle.viewer_session.specs.View.{AreTaken}
use Rattle.viewer_session.proofs.Asked.{taken_more}
use Rattle.viewer_session.proofs.view.take_all.Goals as goal

no_items : (ms : List ClientMessage) → length ms ≡ 0 → ms ≡ []
no_items [] e = refl
no_items (m ∷ ms) e = absurd (omega arith)

pub loop-message-preserved : goal.loop-message-preserved
loop-message-preserved c =
    let at = c.loop-message in
    let inv = at.invariant.2 in
    let m = c.in-Some.message in
    let following = into_iter_items c.next.new.self in
    let next : into_iter_items at.message-iterator ≡ m ∷ following = c.in-Some.ensures.steps.0 in (
      tt,
      tt,
      record {
        rest = append_assoc at.yielded (m ∷ []) following ∙ ap (λ (l : List ClientMessage). at.yielded ++ l) (sym next) ∙ inv.rest;
        sound = c.take.ensures.sound;
        taken = taken_more c.args.view.now at.view c.take.new.self at.yielded m inv.taken c.take.ensures.taken;
        screen = c.take.ensures.screen ∙ inv.screen;
        position = c.take.ensures.position ∙ inv.position;
        right = λ head seen list before. c.take.ensures.right head seen list (inv.right head seen list before);
      },
    )

pub returns-clause-taken : goal.returns-clause-taken
returns-clause-taken c =
    let at = c.loop-message in
    let inv = at.invariant.2 in
    let none : into_iter_items at.message-iterator ≡ [] = no_items (into_iter_items at.message-iterator) (omega (arith, c.in-None.ensures.steps.0, at.message-iterator.rest.ok.0)) in
    let all : at.yielded ≡ c.args.messages.items = sym (append-nil at.yielded) ∙ ap (λ (l : List ClientMessage). at.yielded ++ l) (sym none) ∙ inv.rest in
    subst (λ (l : List ClientMessage). AreTaken c.args.view.now at.view l) all inv.taken
