use Rattle.std.proofs.Common.{◌∙◌, ◌<◌, ◌≤◌, List, length, get_or, refl, sym, subst}
use Rattle.std.proofs.lemmas.List.{at_drop_more, drop_all}
use Rattle.rfb_wire.specs.declared.message.Rectangle.{Rectangle}
use Rattle.painter.proofs.Order.{no_rectangle}
use Rattle.viewer_session.specs.Shown.{IsPaintedOver, ArePaintedOver}
use Rattle.viewer_session.proofs.painting.paint.Goals as goal

pub loop-number-init : goal.loop-number-init
loop-number-init c = record { size = record { width = refl; height = refl }; painted = λ end h. h }

pub loop-number-preserved : goal.loop-number-preserved
loop-number-preserved c =
    let m = c.args.message.now in
    let at = c.loop-number in
    let i = at.number in
    let inv = at.invariant in
    let new = c.paint_rectangle.new.self in
    let lt : i < length m.rectangles = rw (← c.rectangles-number-end.ensures.value) c.loop-number-test.true in
    let r = get_or m.rectangles i no_rectangle in
    let is : IsPaintedOver at.screen new m.bytes r = record { size = c.paint_rectangle.ensures.size; painted = c.paint_rectangle.ensures.painted no_rectangle } in
    record {
      size = record { width = is.size.width ∙ inv.size.width; height = is.size.height ∙ inv.size.height };
      painted = λ end rest.
          inv.painted end (subst (λ (rs : List Rectangle). ArePaintedOver m.bytes at.screen end rs) (sym (at_drop_more (λ (rs : List Rectangle). rs) m.rectangles i no_rectangle lt)) (new, is, rest));
    }

pub returns-clause-painted : goal.returns-clause-painted
returns-clause-painted c =
    let m = c.args.message.now in
    let at = c.loop-number in
    let le : length m.rectangles ≤ at.number = rw (← c.rectangles-number-end.ensures.value) c.loop-number-test.false in
    at.invariant.painted at.screen (subst (λ (rs : List Rectangle). ArePaintedOver m.bytes at.screen at.screen rs) (sym (drop_all at.number m.rectangles le)) refl)
