use Rattle.std.proofs.Common.{◌≡◌, ◌++◌, List, ℕ, ap, ◌∙◌}
use Rattle.std.proofs.lemmas.Result.{on_ok_weaker, IfErr-weaker}
use Rattle.host_session.proofs.Turns.{unless_memory_map}
use Rattle.host_session.proofs.Sessions.{fed, stopped, nothing_said}
use Rattle.host_session.proofs.session.HostSession.feed.Goals as goal

pub returns-clause-goes : goal.returns-clause-goes
returns-clause-goes c = λ stream sent messages h.
    let s = c.self.inside in
    let p = s.exchange in
    let said : List ℕ = c.feed-heard.new.due.items in
    let from = nothing_said s.expected p.handshake.position p.handshake.kept.items p.reader stream messages sent s.due.items c.new-said.result.items
    c.new-said.ensures.items (rw (← c.self.view_is) at h) in
    let ok = c.in_default-make_due.ensures.ok in
    let goes = rw ok.0 at c.feed-heard.ensures.goes in
    let due : c.make_due.new.due.items ≡ s.due.items ++ said = ok.1 ∙ ap (λ z. s.due.items ++ z) c.deref.ensures.value in
    fed _ (stream ++ c.args.piece.now) messages sent s.due.items said c.args.out.now.items c.feed-heard.new.out.items due
    (goes stream (sent ++ s.due.items) messages from)

pub returns-in-Err-clause-faults : goal.returns-in-Err-clause-faults
returns-in-Err-clause-faults c = λ going stream sent messages h.
    let s = c.self.inside in
    let p = s.exchange in
    let said : List ℕ = c.feed-heard.new.due.items in
    let from = nothing_said s.expected p.handshake.position p.handshake.kept.items p.reader stream messages sent s.due.items c.new-said.result.items
    c.new-said.ensures.items (rw (← c.self.view_is) at h) in
    stopped _ (stream ++ c.args.piece.now) messages sent s.due.items said c.args.out.now.items c.feed-heard.new.out.items c.feed-heard.result c.in-Err.fault
    (unless_memory_map c.in-Err.fault _ _ (λ e. (e.0, e.1 ∙ ap (λ z. s.due.items ++ z) c.deref.ensures.value)) c.in-Err.ensures.err)
    (on_ok_weaker c.feed-heard.result (λ goes. goes stream (sent ++ s.due.items) messages from) c.feed-heard.ensures.goes)
    (IfErr-weaker c.feed-heard.result _ _ (λ f stops. stops stream (sent ++ s.due.items) messages from) c.feed-heard.ensures.faults)
