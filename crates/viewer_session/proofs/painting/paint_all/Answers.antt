use Rattle.std.proofs.Common.{◌≡◌, ◌∙◌, ◌+◌, List, ◌∷◌, drop, get_or, refl, sym, ap, subst}
use Rattle.std.proofs.lemmas.List.{at_drop_more, drop_all}
use Rattle.keyed_entries.specs.declared.entry.Stamped.{Stamped}
use Rattle.viewer_session.specs.Shown.{AreAllPaintedOver}
use Rattle.viewer_session.proofs.painting.paint_all.Goals as goal

pub loop-stamped-init : goal.loop-stamped-init
loop-stamped-init c = record { size = record { width = refl; height = refl }; painted = λ end h. h }

pub loop-stamped-preserved : goal.loop-stamped-preserved
loop-stamped-preserved c =
    let ms = c.args.messages.now in
    let at = c.loop-stamped in
    let i = at.stamped-index in
    let inv = at.invariant in
    let new = c.paint.new.screen in
    let s = c.stamped-item.result in
    let is : s ≡ get_or ms i s = c.stamped-item.is in
    let size = c.paint.ensures.size in
    record {
      size = record { width = size.width ∙ inv.size.width; height = size.height ∙ inv.size.height };
      painted = λ end rest.
          let next : drop i ms ≡ s ∷ drop (i + 1) ms = at_drop_more (λ (l : List Stamped). l) ms i s c.loop-stamped-test.true ∙ ap (λ (z : Stamped). z ∷ drop (i + 1) ms) (sym is) in
          inv.painted end (subst (λ (l : List Stamped). AreAllPaintedOver at.screen end l) (sym next) (new, c.paint.ensures.painted, rest));
    }

pub returns-clause-painted : goal.returns-clause-painted
returns-clause-painted c =
    let ms = c.args.messages.now in
    let at = c.loop-stamped in
    at.invariant.painted at.screen (subst (λ (l : List Stamped). AreAllPaintedOver at.screen at.screen l) (sym (drop_all at.stamped-index ms c.loop-stamped-test.false)) refl)
