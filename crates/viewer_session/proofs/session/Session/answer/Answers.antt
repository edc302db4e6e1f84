use Rattle.std.proofs.Common.{List, ℕ, subst, arith}
use Rattle.std.proofs.lemmas.Grind.{common_steps}
use Rattle.terms.specs.Appending.{Appends}
use Rattle.viewer_session.specs.Encoded.{IsEncodedFor}
use Rattle.viewer_session.specs.View.{Answers, HasAreasDue}
use Rattle.viewer_session.proofs.session.Session.answer.Goals as goal

pub returns-clause-due : goal.returns-clause-due
returns-clause-due g c = rw (← c.self.view_is) (λ due.
    subst (λ (o : List ℕ). Appends (Answers c.self.inside.view c.answer.new.self) o c.answer.new.out.items) c.in_ok-sent.ensures.ok (c.in_default.ensures.due due))

pub returns-clause-areas : goal.returns-clause-areas
returns-clause-areas g c = rw (← c.self.view_is) (λ due.
    subst (λ (o : List ℕ). Appends (HasAreasDue c.self.inside.view) o c.answer.new.out.items) c.in_ok-sent.ensures.ok (c.in_default.ensures.areas due))

pub returns-clause-encoded : goal.returns-clause-encoded
returns-clause-encoded g c = rw (← c.self.view_is) (λ due.
    subst (λ (o : List ℕ). Appends (IsEncodedFor c.self.inside.view) o c.answer.new.out.items) c.in_ok-sent.ensures.ok (c.in_default.ensures.encoded due))

pub returns-in-Err-clause-err : goal.returns-in-Err-clause-err
returns-in-Err-clause-err g c = grind (arith, common_steps)

pub invariant_of-self-2 : goal.invariant_of-self-2
invariant_of-self-2 g c = grind (arith, common_steps)

pub returns-clause-kept : goal.returns-clause-kept
returns-clause-kept g c = grind (arith, common_steps)

pub returns-clause-after : goal.returns-clause-after
returns-clause-after g c = grind (arith, common_steps)
