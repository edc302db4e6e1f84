use Rattle.std.proofs.Common.{◌≡◌, List, ◌∙◌, ap, sym, subst}
use Rattle.std.specs.Prelude.{All}
use Rattle.painter.specs.Framebuffer.{Framebuffer}
use Rattle.keyed_entries.specs.declared.entry.Stamped.{Stamped}
use Rattle.viewer_session.specs.Noting.{AreAllNoted}
use Rattle.viewer_session.proofs.Paintings.{all_wide, all_high}
use Rattle.viewer_session.proofs.Notings.{has_advanced, next_with, sound_with}
use Rattle.viewer_session.proofs.view.View.advance.Goals as goal

pub begin-requires-clause-sound : goal.begin-requires-clause-sound
begin-requires-clause-sound c = sound_with c.args.self.now c.paint.new.self c.paint.ensures.size.width c.paint.ensures.size.height c.requires.sound

pub begin-requires-clause-next : goal.begin-requires-clause-next
begin-requires-clause-next c = next_with c.args.self.now c.paint.new.self c.args.slice.now c.paint.ensures.size c.requires.next

pub note_all-requires-clause-widths : goal.note_all-requires-clause-widths
note_all-requires-clause-widths c =
    subst (λ (ms : List Stamped). All (λ m. m.message.width ≡ c.begin.new.self.screen.width) ms) (sym c.deref.ensures.value)
    (all_wide c.args.self.now.screen.width c.args.self.now.screen.height c.begin.new.self.screen.width c.args.slice.now.messages.items
    (ap (λ (f : Framebuffer). f.width) c.begin.ensures.screen ∙ c.paint.ensures.size.width) c.requires.next.each)

pub note_all-requires-clause-heights : goal.note_all-requires-clause-heights
note_all-requires-clause-heights c =
    subst (λ (ms : List Stamped). All (λ m. m.message.height ≡ c.begin.new.self.screen.height) ms) (sym c.deref.ensures.value)
    (all_high c.args.self.now.screen.width c.args.self.now.screen.height c.begin.new.self.screen.height c.args.slice.now.messages.items
    (ap (λ (f : Framebuffer). f.height) c.begin.ensures.screen ∙ c.paint.ensures.size.height) c.requires.next.each)

pub returns-clause-goes_on : goal.returns-clause-goes_on
returns-clause-goes_on c =
    let notes = subst (λ (ms : List Stamped). AreAllNoted c.begin.new.self c.note_all.new.self ms) c.deref.ensures.value c.note_all.ensures.noted in
    (has_advanced c.args.self.now c.begin.new.self c.note_all.new.self c.args.slice.now c.paint.new.self c.requires.next c.paint.ensures.size c.in_ok-paint.ensures.painted
    c.begin.ensures.begins c.begin.ensures.sound notes (c.note_all.ensures.screen ∙ c.begin.ensures.screen)).goes

pub returns-clause-right : goal.returns-clause-right
returns-clause-right c =
    let notes = subst (λ (ms : List Stamped). AreAllNoted c.begin.new.self c.note_all.new.self ms) c.deref.ensures.value c.note_all.ensures.noted in
    (has_advanced c.args.self.now c.begin.new.self c.note_all.new.self c.args.slice.now c.paint.new.self c.requires.next c.paint.ensures.size c.in_ok-paint.ensures.painted
    c.begin.ensures.begins c.begin.ensures.sound notes (c.note_all.ensures.screen ∙ c.begin.ensures.screen)).gone.right

pub returns-clause-stale : goal.returns-clause-stale
returns-clause-stale c =
    let notes = subst (λ (ms : List Stamped). AreAllNoted c.begin.new.self c.note_all.new.self ms) c.deref.ensures.value c.note_all.ensures.noted in
    (has_advanced c.args.self.now c.begin.new.self c.note_all.new.self c.args.slice.now c.paint.new.self c.requires.next c.paint.ensures.size c.in_ok-paint.ensures.painted
    c.begin.ensures.begins c.begin.ensures.sound notes (c.note_all.ensures.screen ∙ c.begin.ensures.screen)).gone.stale

pub returns-clause-position : goal.returns-clause-position
returns-clause-position c =
    let notes = subst (λ (ms : List Stamped). AreAllNoted c.begin.new.self c.note_all.new.self ms) c.deref.ensures.value c.note_all.ensures.noted in
    (has_advanced c.args.self.now c.begin.new.self c.note_all.new.self c.args.slice.now c.paint.new.self c.requires.next c.paint.ensures.size c.in_ok-paint.ensures.painted
    c.begin.ensures.begins c.begin.ensures.sound notes (c.note_all.ensures.screen ∙ c.begin.ensures.screen)).gone.position

pub returns-clause-started : goal.returns-clause-started
returns-clause-started c =
    let notes = subst (λ (ms : List Stamped). AreAllNoted c.begin.new.self c.note_all.new.self ms) c.deref.ensures.value c.note_all.ensures.noted in
    (has_advanced c.args.self.now c.begin.new.self c.note_all.new.self c.args.slice.now c.paint.new.self c.requires.next c.paint.ensures.size c.in_ok-paint.ensures.painted
    c.begin.ensures.begins c.begin.ensures.sound notes (c.note_all.ensures.screen ∙ c.begin.ensures.screen)).gone.started

pub returns-clause-size : goal.returns-clause-size
returns-clause-size c =
    let notes = subst (λ (ms : List Stamped). AreAllNoted c.begin.new.self c.note_all.new.self ms) c.deref.ensures.value c.note_all.ensures.noted in
    (has_advanced c.args.self.now c.begin.new.self c.note_all.new.self c.args.slice.now c.paint.new.self c.requires.next c.paint.ensures.size c.in_ok-paint.ensures.painted
    c.begin.ensures.begins c.begin.ensures.sound notes (c.note_all.ensures.screen ∙ c.begin.ensures.screen)).gone.size

pub returns-clause-asked : goal.returns-clause-asked
returns-clause-asked c =
    let notes = subst (λ (ms : List Stamped). AreAllNoted c.begin.new.self c.note_all.new.self ms) c.deref.ensures.value c.note_all.ensures.noted in
    let gone = (has_advanced c.args.self.now c.begin.new.self c.note_all.new.self c.args.slice.now c.paint.new.self c.requires.next c.paint.ensures.size c.in_ok-paint.ensures.painted
    c.begin.ensures.begins c.begin.ensures.sound notes (c.note_all.ensures.screen ∙ c.begin.ensures.screen)).gone in
    (gone.format, gone.encoding, gone.pending)

pub returns-in_err-paint-clause-sound : goal.returns-in_err-paint-clause-sound
returns-in_err-paint-clause-sound c = sound_with c.args.self.now c.paint.new.self c.paint.ensures.size.width c.paint.ensures.size.height c.requires.sound
