use Rattle.std.proofs.Common.{◌≡◌, ◌∙◌, List, sym, ap, subst}
use Rattle.std.specs.Prelude.{All}
use Rattle.painter.specs.Framebuffer.{Framebuffer}
use Rattle.keyed_entries.specs.declared.entry.Stamped.{Stamped}
use Rattle.viewer_session.specs.Shown.{AreAllPaintedOver}
use Rattle.viewer_session.proofs.Paintings.{all_wide, all_high}
use Rattle.viewer_session.proofs.Notings.{start_sized}
use Rattle.viewer_session.proofs.painting.paint_slice.Goals as goal

pub paint_all-requires-clause-widths : goal.paint_all-requires-clause-widths
paint_all-requires-clause-widths c =
    let old = c.args.screen.now in
    let slice = c.args.slice.now in
    let begun = c.take_over.new.screen in
    let wide : begun.width ≡ old.width = ap (λ (f : Framebuffer). f.width) c.take_over.ensures ∙ (start_sized slice.start old c.requires.start).0 in
    subst (λ (ms : List Stamped). All (λ m. m.message.width ≡ begun.width) ms) (sym c.deref.ensures.value) (all_wide old.width old.height begun.width slice.messages.items wide c.requires.each)

pub paint_all-requires-clause-heights : goal.paint_all-requires-clause-heights
paint_all-requires-clause-heights c =
    let old = c.args.screen.now in
    let slice = c.args.slice.now in
    let begun = c.take_over.new.screen in
    let high : begun.height ≡ old.height = ap (λ (f : Framebuffer). f.height) c.take_over.ensures ∙ (start_sized slice.start old c.requires.start).1 in
    subst (λ (ms : List Stamped). All (λ m. m.message.height ≡ begun.height) ms) (sym c.deref.ensures.value) (all_high old.width old.height begun.height slice.messages.items high c.requires.each)

pub returns-clause-size : goal.returns-clause-size
returns-clause-size c =
    let old = c.args.screen.now in
    let slice = c.args.slice.now in
    let sized = start_sized slice.start old c.requires.start in
    let size = c.paint_all.ensures.size in
    record {
      width = size.width ∙ ap (λ (f : Framebuffer). f.width) c.take_over.ensures ∙ sized.0;
      height = size.height ∙ ap (λ (f : Framebuffer). f.height) c.take_over.ensures ∙ sized.1;
    }

pub returns-clause-painted : goal.returns-clause-painted
returns-clause-painted c =
    let slice = c.args.slice.now in
    let new = c.paint_all.new.screen in
    subst (λ (f : Framebuffer). AreAllPaintedOver f new slice.messages.items) c.take_over.ensures
    (subst (λ (ms : List Stamped). AreAllPaintedOver c.take_over.new.screen new ms) c.deref.ensures.value c.paint_all.ensures.painted)
