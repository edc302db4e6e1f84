use Rattle.std.proofs.Common.{◌≡◌, ◌++◌, sym, ◌∙◌, rules}
use Rattle.std.specs.Prelude.{Some, None}
use Rattle.std.proofs.lemmas.List.{take_rest}
use Rattle.std.proofs.lemmas.Result.{err_from_is_err_and}
use Rattle.std.proofs.lemmas.Result.{on_ok_weaker, IfErr-weaker}
use Rattle.host_session.proofs.Sessions.{stands_listening, stands_handshake, listening_goes, listening_stops, handshake_stops, handshake_fed, rest_goes, rest_stops}
use Rattle.host_session.proofs.exchange.Exchange.feed.Goals as goal

pub returns-in-Some-clause-goes : goal.returns-in-Some-clause-goes
returns-in-Some-clause-goes c =
    let s = c.args.self.now in
    let r = c.in-Some.reader in
    let is : s.reader ≡ Some r = sym c.take.ensures.value ∙ c.in-Some.is in
    on_ok_weaker c.listen-heard.result (λ g stream sent messages h.
    listening_goes c.args.expected s.handshake.position s.handshake.kept.items r c.listen-heard.new.reader stream c.args.piece.now messages sent
    c.args.out.now.items c.listen-heard.new.out.items c.args.due.now.items c.listen-heard.new.due.items c.listen-heard.ensures.screen g
    (stands_listening c.args.expected s.handshake.position s.handshake.kept.items s.reader r stream messages (sent ++ c.args.due.now.items) is h))
    c.listen-heard.ensures.goes

pub returns-in-Some-clause-faults : goal.returns-in-Some-clause-faults
returns-in-Some-clause-faults c =
    let s = c.args.self.now in
    let r = c.in-Some.reader in
    let is : s.reader ≡ Some r = sym c.take.ensures.value ∙ c.in-Some.is in
    IfErr-weaker c.listen-heard.result _ _ (λ f g stream sent messages h.
    listening_stops c.args.expected s.handshake.kept.items r c.listen-heard.new.reader f stream c.args.piece.now messages sent
    c.args.out.now.items c.listen-heard.new.out.items c.args.due.now.items c.listen-heard.new.due.items c.listen-heard.ensures.screen c.listen-heard.ensures.some g
    (stands_listening c.args.expected s.handshake.position s.handshake.kept.items s.reader r stream messages (sent ++ c.args.due.now.items) is h))
    c.listen-heard.ensures.faults

pub returns-in_err-taken-clause-faults : goal.returns-in_err-taken-clause-faults
returns-in_err-taken-clause-faults c =
    let p = err_from_is_err_and c.from_residual.result c.from_residual.ensures.1 in
    let s = c.args.self.now in
    let n = c.take_handshake.new.self in
    let f = c.in_err-taken.field-0.0 in
    let none : s.reader ≡ None = search rules in
    let bad = c.in_err-taken.ensures.faults in
    rw (p.1, p.2) (λ stream sent messages h.
    handshake_stops c.args.expected _ n f stream c.args.piece.now messages sent c.args.due.now.items c.take_handshake.new.due.items c.args.out.now.items bad
    (stands_handshake c.args.expected s.handshake.position s.handshake.kept.items s.reader stream messages (sent ++ c.args.due.now.items) none h))

pub returns-clause-goes : goal.returns-clause-goes
returns-clause-goes c =
    let s = c.args.self.now in
    let m = c.take_handshake.new.self in
    let r = c.in-Some-take.reader in
    let none : s.reader ≡ None = search rules in
    let whole = rw c.in-Some-2.is at c.in_ok-taken.ensures.taken in
    let is : m.reader ≡ Some r = sym c.take-2.ensures.value ∙ c.in-Some-take.is in
    let rest = take_rest c.args.piece.now c.in-Some-2.taken in
    on_ok_weaker c.listen-heard-2.result (λ g stream sent messages h.
    rest_goes c.args.expected m.handshake.position _ m r c.listen-heard-2.new.reader c.in-Some-2.taken stream c.args.piece.now _ messages sent
    c.args.out.now.items c.listen-heard-2.new.out.items c.args.due.now.items c.take_handshake.new.due.items c.listen-heard-2.new.due.items whole is rest c.listen-heard-2.ensures.screen g
    (stands_handshake c.args.expected s.handshake.position s.handshake.kept.items s.reader stream messages (sent ++ c.args.due.now.items) none h))
    c.listen-heard-2.ensures.goes

pub returns-clause-faults : goal.returns-clause-faults
returns-clause-faults c =
    let s = c.args.self.now in
    let m = c.take_handshake.new.self in
    let r = c.in-Some-take.reader in
    let none : s.reader ≡ None = search rules in
    let whole = rw c.in-Some-2.is at c.in_ok-taken.ensures.taken in
    let is : m.reader ≡ Some r = sym c.take-2.ensures.value ∙ c.in-Some-take.is in
    let rest = take_rest c.args.piece.now c.in-Some-2.taken in
    IfErr-weaker c.listen-heard-2.result _ _ (λ f g stream sent messages h.
    rest_stops c.args.expected _ m r c.listen-heard-2.new.reader f c.in-Some-2.taken stream c.args.piece.now _ messages sent
    c.args.out.now.items c.listen-heard-2.new.out.items c.args.due.now.items c.take_handshake.new.due.items c.listen-heard-2.new.due.items whole is rest c.listen-heard-2.ensures.screen c.listen-heard-2.ensures.some g
    (stands_handshake c.args.expected s.handshake.position s.handshake.kept.items s.reader stream messages (sent ++ c.args.due.now.items) none h))
    c.listen-heard-2.ensures.faults

pub returns-in_default-2-clause-goes : goal.returns-in_default-2-clause-goes
returns-in_default-2-clause-goes c = λ stream sent messages h.
    let s = c.args.self.now in
    let none : s.reader ≡ None = search rules in
    let waits : c.in_ok-taken.field-0 ≡ None = search rules in
    let goes = rw waits at c.in_ok-taken.ensures.taken in
    handshake_fed c.args.expected _ c.take_handshake.new.self stream c.args.piece.now messages sent c.args.due.now.items c.take_handshake.new.due.items c.args.out.now.items goes
    (stands_handshake c.args.expected s.handshake.position s.handshake.kept.items s.reader stream messages (sent ++ c.args.due.now.items) none h)
