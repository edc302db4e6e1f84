use Rattle.std.proofs.Common.{◌≡◌, true, false, sym, subst, ap}
use Rattle.std.specs.Prelude.{Some}
use Rattle.terms.specs.declared.screen_size.ScreenSize.{ScreenSize}
use Rattle.terms.specs.Area.{HasJust}
use Rattle.painter.specs.Framebuffer.{Framebuffer}
use Rattle.viewer_session.specs.declared.view.View.{View}
use Rattle.shared_updates.specs.Copies.{IsPart}
use Rattle.viewer_session.specs.View.{is_left}
use Rattle.viewer_session.proofs.Asked.{KeepsAsked, IsCut, AsksPart, asks_nothing, asks_changes, asks_whole, part_left, sound_asked}
use Rattle.viewer_session.proofs.view.View.ask.Goals as goal

pub returns-in_default-clause-asked : goal.returns-in_default-clause-asked
returns-in_default-clause-asked c =
    let old = c.args.self.now in
    asks_nothing old c.args.incremental c.args.area c.requires.sound (rw c.size-size.ensures at c.in_default.ensures)

pub widened-pending-requires-clause-area : goal.widened-pending-requires-clause-area
widened-pending-requires-clause-area c =
    let old = c.args.self.now in
    let part = c.in-Some.area in
    let cut : HasJust (is_left old.screen.width old.screen.height c.args.area) part = rw c.size-size.ensures at c.in-Some.ensures in
    rw c.size-size.ensures (part_left old.screen.width old.screen.height c.args.area part cut)

pub ask_whole-requires-clause-part : goal.ask_whole-requires-clause-part
ask_whole-requires-clause-part c =
    let old = c.args.self.now in
    let part = c.in-Some.area in
    let cut : HasJust (is_left old.screen.width old.screen.height c.args.area) part = rw c.size-size.ensures at c.in-Some.ensures in
    let screen : c.keep_asked.new.self.screen ≡ old.screen = ap (λ (v : View). v.screen) c.keep_asked.ensures.kept in
    subst (λ (s : Framebuffer). IsPart s.width s.height part) (sym screen) (part_left old.screen.width old.screen.height c.args.area part cut)

pub returns-then-not-incremental-clause-asked : goal.returns-then-not-incremental-clause-asked
returns-then-not-incremental-clause-asked c =
    let old = c.args.self.now in
    let mid = c.keep_asked.new.self in
    let part = c.in-Some.area in
    let pending = c.widened-pending.result in
    let plain : c.args.incremental ≡ false = c.if-not-incremental.true in
    let k : KeepsAsked old mid false pending = record { size = c.keep_asked.ensures.size; stale = c.keep_asked.ensures.stale; kept = c.keep_asked.ensures.kept; lost = λ e. c.keep_asked.ensures.lost plain; outside = c.keep_asked.ensures.outside; on = λ e. absurd (cc) } in
    let cut : IsCut old c.args.area part pending = record { just = rw c.size-size.ensures at c.in-Some.ensures; smallest = c.widened-pending.ensures.smallest } in
    let asks : AsksPart (record mid { pending = Some pending }) c.ask_whole.new.self part = record { size = c.ask_whole.ensures.size; stale = c.ask_whole.ensures.stale; kept = c.ask_whole.ensures.kept } in
    rw plain (asks_whole old mid c.ask_whole.new.self c.args.area part pending cut k asks)

pub returns-else-not-incremental-clause-asked : goal.returns-else-not-incremental-clause-asked
returns-else-not-incremental-clause-asked c =
    let old = c.args.self.now in
    let mid = c.keep_asked.new.self in
    let part = c.in-Some.area in
    let pending = c.widened-pending.result in
    let plain : c.args.incremental ≡ true = c.if-not-incremental.false in
    let k : KeepsAsked old mid true pending = record { size = c.keep_asked.ensures.size; stale = c.keep_asked.ensures.stale; kept = c.keep_asked.ensures.kept; lost = λ e. absurd (cc); outside = c.keep_asked.ensures.outside; on = λ e. c.keep_asked.ensures.on plain } in
    let cut : IsCut old c.args.area part pending = record { just = rw c.size-size.ensures at c.in-Some.ensures; smallest = c.widened-pending.ensures.smallest } in
    rw plain (asks_changes old mid c.args.area part pending cut k)

pub returns-else-not-incremental-clause-sound : goal.returns-else-not-incremental-clause-sound
returns-else-not-incremental-clause-sound c =
    let old = c.args.self.now in
    let mid = c.keep_asked.new.self in
    let pending = c.widened-pending.result in
    let k : KeepsAsked old mid c.args.incremental pending = record { size = c.keep_asked.ensures.size; stale = c.keep_asked.ensures.stale; kept = c.keep_asked.ensures.kept; lost = c.keep_asked.ensures.lost; outside = c.keep_asked.ensures.outside; on = c.keep_asked.ensures.on } in
    sound_asked old mid c.args.incremental pending c.requires.sound k (subst (λ (z : ScreenSize). IsPart z.width z.height pending) c.size-size.ensures c.widened-pending.ensures.part)
