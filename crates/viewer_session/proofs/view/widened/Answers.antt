use Rattle.std.proofs.Common.{sym, subst}
use Rattle.std.specs.Prelude.{Option, ◌||◌}
use Rattle.terms.specs.declared.area.Area.{Area}
use Rattle.terms.specs.Area.{is_in}
use Rattle.terms.specs.Area.{IsSmallest}
use Rattle.viewer_session.specs.View.{is_pending}
use Rattle.viewer_session.proofs.Asked.{part_itself, part_around}
use Rattle.viewer_session.proofs.view.widened.Goals as goal

pub returns-in-Some-clause-smallest : goal.returns-in-Some-clause-smallest
returns-in-Some-clause-smallest c =
    subst (λ (p : Option Area). IsSmallest (λ x y. is_pending p x y || is_in c.args.area x y) c.around.result) (sym c.in-Some.is) c.around.ensures

pub returns-in-None-clause-smallest : goal.returns-in-None-clause-smallest
returns-in-None-clause-smallest c =
    subst (λ (p : Option Area). IsSmallest (λ x y. is_pending p x y || is_in c.args.area x y) c.args.area) (sym c.in-None.is) (part_itself c.args.size.width c.args.size.height c.args.area c.requires.area)

pub returns-in-Some-clause-part : goal.returns-in-Some-clause-part
returns-in-Some-clause-part c =
    part_around c.args.size.width c.args.size.height c.in-Some.pending c.args.area c.around.result (rw c.in-Some.is at c.requires.pending) c.requires.area c.around.ensures
