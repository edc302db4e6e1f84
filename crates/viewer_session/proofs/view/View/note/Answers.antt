use Rattle.std.proofs.Common.{◌∙◌, ◌<◌, ◌≤◌, List, length, get_or, refl, sym, ap, subst}
use Rattle.std.proofs.lemmas.List.{at_drop_more, drop_all}
use Rattle.std.proofs.lemmas.List.Elements.{All-get_or}
use Rattle.rfb_wire.specs.declared.message.Rectangle.{Rectangle}
use Rattle.rfb_wire.specs.Host.{IsPlaced}
use Rattle.painter.specs.Framebuffer.{Framebuffer}
use Rattle.painter.proofs.Order.{no_rectangle}
use Rattle.viewer_session.specs.declared.view.View.{View}
use Rattle.viewer_session.specs.Noting.{IsNoted, AreNoted}
use Rattle.viewer_session.proofs.Notings.{noted_sound}
use Rattle.viewer_session.proofs.view.View.note.Goals as goal

pub loop-number-init : goal.loop-number-init
loop-number-init c = record { sound = c.requires.sound; screen = refl; noted = λ end h. h }

pub loop-number-preserved : goal.loop-number-preserved
loop-number-preserved c =
    let m = c.args.message.now in
    let at = c.loop-number in
    let i = at.number in
    let inv = at.invariant in
    let new = c.note_rectangle.new.self in
    let lt : i < length m.rectangles = rw (← c.rectangles-number-end.ensures.value) c.loop-number-test.true in
    let r = get_or m.rectangles i no_rectangle in
    let is : IsNoted at.self new m.bytes r = c.note_rectangle.ensures no_rectangle in
    record {
      sound = noted_sound m r at.self new (All-get_or (IsPlaced m) m.rectangles i no_rectangle lt c.rectangles-number-end.ensures.placed)
          (c.requires.width ∙ sym (ap (λ (f : Framebuffer). f.width) inv.screen)) (c.requires.height ∙ sym (ap (λ (f : Framebuffer). f.height) inv.screen)) inv.sound is;
      screen = ap (λ (v : View). v.screen) is.kept ∙ inv.screen;
      noted = λ end rest.
          inv.noted end (subst (λ (rs : List Rectangle). AreNoted m.bytes at.self end rs) (sym (at_drop_more (λ (rs : List Rectangle). rs) m.rectangles i no_rectangle lt)) (new, is, rest));
    }

pub returns-clause-noted : goal.returns-clause-noted
returns-clause-noted c =
    let m = c.args.message.now in
    let at = c.loop-number in
    let le : length m.rectangles ≤ at.number = rw (← c.rectangles-number-end.ensures.value) c.loop-number-test.false in
    at.invariant.noted at.self (subst (λ (rs : List Rectangle). AreNoted m.bytes at.self at.self rs) (sym (drop_all at.number m.rectangles le)) refl)
