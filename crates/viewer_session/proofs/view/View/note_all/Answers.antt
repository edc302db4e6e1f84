use Rattle.std.proofs.Common.{◌≡◌, ◌∙◌, ◌+◌, List, ◌∷◌, drop, get_or, refl, sym, ap, subst}
use Rattle.std.proofs.lemmas.List.{at_drop_more, drop_all}
use Rattle.keyed_entries.specs.declared.entry.Stamped.{Stamped}
use Rattle.viewer_session.specs.Noting.{AreAllNoted}
use Rattle.viewer_session.proofs.view.View.note_all.Goals as goal

pub loop-stamped-init : goal.loop-stamped-init
loop-stamped-init c = record { sound = c.requires.sound; screen = refl; noted = λ end h. h }

pub loop-stamped-preserved : goal.loop-stamped-preserved
loop-stamped-preserved c =
    let ms = c.args.messages.now in
    let at = c.loop-stamped in
    let i = at.stamped-index in
    let inv = at.invariant in
    let new = c.note.new.self in
    let s = c.stamped-item.result in
    let is : s ≡ get_or ms i s = c.stamped-item.is in
    record {
      sound = c.note.ensures.sound;
      screen = c.note.ensures.screen ∙ inv.screen;
      noted = λ end rest.
          let next : drop i ms ≡ s ∷ drop (i + 1) ms = at_drop_more (λ (l : List Stamped). l) ms i s c.loop-stamped-test.true ∙ ap (λ (z : Stamped). z ∷ drop (i + 1) ms) (sym is) in
          inv.noted end (subst (λ (l : List Stamped). AreAllNoted at.self end l) (sym next) (new, c.note.ensures.noted, rest));
    }

pub returns-clause-noted : goal.returns-clause-noted
returns-clause-noted c =
    let ms = c.args.messages.now in
    let at = c.loop-stamped in
    at.invariant.noted at.self (subst (λ (l : List Stamped). AreAllNoted at.self at.self l) (sym (drop_all at.stamped-index ms c.loop-stamped-test.false)) refl)
