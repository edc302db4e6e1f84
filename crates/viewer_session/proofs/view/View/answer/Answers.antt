use Rattle.std.proofs.Common.{List, sym, subst}
use Rattle.std.specs.Prelude.{All, None, false}
use Rattle.terms.specs.declared.area.Area.{Area}
use Rattle.terms.specs.Area.{LiesWithin}
use Rattle.terms.specs.Appending.{Appends}
use Rattle.shared_updates.specs.declared.copy.KeptCopy.{KeptCopy}
use Rattle.viewer_session.specs.View.{Answers}
use Rattle.viewer_session.specs.Sent.{IsSent}
use Rattle.viewer_session.proofs.Answered.{due_in, written_answers, written_areas, sent_within, pending_part}
use Rattle.viewer_session.proofs.view.View.answer.Goals as goal

pub returns-clause-due : goal.returns-clause-due
returns-clause-due g c = λ _.
    let v = c.args.self.now in
    let pending = c.in-Some.pending in
    let areas = c.in-Some-2.areas.items in
    let sent : IsSent v pending areas c.args.out.now.items c.send.new.out.items = rw c.in-Some-2.is at c.in_ok-areas.ensures.ok in
    let due = due_in v pending areas c.args.out.now.items c.send.new.out.items c.if-not-self.false c.in-Some.is c.requires.sound sent in
    subst (λ (l : List KeptCopy). Appends (Answers v (record v { stale = c.remove_all.new.self; pending = None; asked_whole = false; copies = l })) c.args.out.now.items c.send.new.out.items) (sym c.new-self.ensures)
    (written_answers v pending c.remove_all.new.self areas c.args.out.now.items c.send.new.out.items c.written_parts_are_read.ensures c.requires.sound due sent c.remove_all.ensures.size
    (rw c.deref.ensures.value at c.remove_all.ensures.just))

pub returns-clause-areas : goal.returns-clause-areas
returns-clause-areas g c = λ _.
    let v = c.args.self.now in
    let pending = c.in-Some.pending in
    let areas = c.in-Some-2.areas.items in
    let sent : IsSent v pending areas c.args.out.now.items c.send.new.out.items = rw c.in-Some-2.is at c.in_ok-areas.ensures.ok in
    let due = due_in v pending areas c.args.out.now.items c.send.new.out.items c.if-not-self.false c.in-Some.is c.requires.sound sent in
    written_areas v pending areas c.args.out.now.items c.send.new.out.items c.written_parts_are_read.ensures c.requires.sound due sent

pub returns-clause-none : goal.returns-clause-none
returns-clause-none g c = λ none.
    let v = c.args.self.now in
    let pending = c.in-Some.pending in
    let areas = c.in-Some-2.areas.items in
    let sent : IsSent v pending areas c.args.out.now.items c.send.new.out.items = rw c.in-Some-2.is at c.in_ok-areas.ensures.ok in
    let due = due_in v pending areas c.args.out.now.items c.send.new.out.items c.if-not-self.false c.in-Some.is c.requires.sound sent in
    absurd (none due.due)

pub remove_all-requires : goal.remove_all-requires
remove_all-requires g c =
    let v = c.args.self.now in
    let pending = c.in-Some.pending in
    let areas = c.in-Some-2.areas.items in
    let sent : IsSent v pending areas c.args.out.now.items c.send.new.out.items = rw c.in-Some-2.is at c.in_ok-areas.ensures.ok in
    let part = pending_part v pending c.requires.sound c.in-Some.is in
    subst (λ (l : List Area). All (LiesWithin v.stale.width v.stale.height) l) (sym c.deref.ensures.value)
    (rw (c.requires.sound.width, c.requires.sound.height) (sent_within v.stale v.screen.width v.screen.height pending areas part.within sent.sent))
