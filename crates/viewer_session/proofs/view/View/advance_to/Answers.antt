use Rattle.std.proofs.Common.{◌≡◌, List, ap, sym, subst}
use Rattle.std.specs.Prelude.{All}
use Rattle.painter.specs.Framebuffer.{Framebuffer}
use Rattle.keyed_entries.specs.declared.entry.Stamped.{Stamped}
use Rattle.viewer_session.specs.Noting.{AreAllNoted}
use Rattle.viewer_session.proofs.Paintings.{all_wide, all_high}
use Rattle.viewer_session.proofs.Notings.{has_noted}
use Rattle.viewer_session.proofs.view.View.advance_to.Goals as goal

pub returns-clause-notes : goal.returns-clause-notes
returns-clause-notes c = record {
  begun = c.begin.new.self;
  begins = c.begin.ensures.begins;
  noted = c.note_all.new.self;
  notes = subst (λ (ms : List Stamped). AreAllNoted c.begin.new.self c.note_all.new.self ms) c.deref.ensures.value c.note_all.ensures.noted;
  new_is = ap (λ (f : Framebuffer). record c.note_all.new.self { screen = f }) c.give.ensures;
}

pub note_all-requires-clause-widths : goal.note_all-requires-clause-widths
note_all-requires-clause-widths c =
    subst (λ (ms : List Stamped). All (λ m. m.message.width ≡ c.begin.new.self.screen.width) ms) (sym c.deref.ensures.value)
    (all_wide c.args.self.now.screen.width c.args.self.now.screen.height c.begin.new.self.screen.width c.args.slice.now.messages.items
    (ap (λ (f : Framebuffer). f.width) c.begin.ensures.screen) c.requires.next.each)

pub note_all-requires-clause-heights : goal.note_all-requires-clause-heights
note_all-requires-clause-heights c =
    subst (λ (ms : List Stamped). All (λ m. m.message.height ≡ c.begin.new.self.screen.height) ms) (sym c.deref.ensures.value)
    (all_high c.args.self.now.screen.width c.args.self.now.screen.height c.begin.new.self.screen.height c.args.slice.now.messages.items
    (ap (λ (f : Framebuffer). f.height) c.begin.ensures.screen) c.requires.next.each)

pub returns-clause-sound : goal.returns-clause-sound
unfolding returns-clause-notes
returns-clause-sound c = (has_noted c.args.self.now _ c.args.slice.now c.args.snapshot c.requires.next c.requires.size (returns-clause-notes c) c.begin.ensures.sound).sound

pub returns-clause-right : goal.returns-clause-right
unfolding returns-clause-notes
returns-clause-right c = (has_noted c.args.self.now _ c.args.slice.now c.args.snapshot c.requires.next c.requires.size (returns-clause-notes c) c.begin.ensures.sound).right

pub returns-clause-stale : goal.returns-clause-stale
unfolding returns-clause-notes
returns-clause-stale c = (has_noted c.args.self.now _ c.args.slice.now c.args.snapshot c.requires.next c.requires.size (returns-clause-notes c) c.begin.ensures.sound).stale

pub returns-clause-position : goal.returns-clause-position
unfolding returns-clause-notes
returns-clause-position c = (has_noted c.args.self.now _ c.args.slice.now c.args.snapshot c.requires.next c.requires.size (returns-clause-notes c) c.begin.ensures.sound).position

pub returns-clause-started : goal.returns-clause-started
unfolding returns-clause-notes
returns-clause-started c = (has_noted c.args.self.now _ c.args.slice.now c.args.snapshot c.requires.next c.requires.size (returns-clause-notes c) c.begin.ensures.sound).started

pub returns-clause-asked : goal.returns-clause-asked
unfolding returns-clause-notes
returns-clause-asked c =
    let gone = has_noted c.args.self.now _ c.args.slice.now c.args.snapshot c.requires.next c.requires.size (returns-clause-notes c) c.begin.ensures.sound in
    (gone.format, gone.encoding, gone.pending)
