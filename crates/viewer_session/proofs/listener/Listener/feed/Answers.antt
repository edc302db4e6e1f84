use Rattle.std.proofs.Common.{◌≡◌, ◌++◌, ◌∙◌, sym, rules}
use Rattle.std.specs.Prelude.{None, Some}
use Rattle.std.proofs.lemmas.List.{take_rest}
use Rattle.std.proofs.lemmas.Result.{err_from_is_err_and}
use Rattle.viewer_session.proofs.Streams.{on_ok, if_err, in_messages, listening_goes, listening_stops, fed_waits, fed_ends, fed_whole, rest_goes, rest_stops}
use Rattle.viewer_session.specs.Listener.{due_by}
use Rattle.viewer_session.proofs.listener.Listener.feed.Goals as goal

pub returns-in-Some-clause-goes : goal.returns-in-Some-clause-goes
returns-in-Some-clause-goes c =
    let g = c.args.self.now.greeting in
    let r = c.in-Some.reader in
    let is : c.args.self.now.reader ≡ Some r = sym c.take.ensures.value ∙ c.in-Some.is in
    on_ok c.listen-heard.result _ _ (λ goes stream told messages h.
    listening_goes g.size.width g.size.height g.name.items r c.listen-heard.new.reader stream c.args.piece.now messages c.listen-heard.new.out.items (told ++ due_by g) goes
    (in_messages g c.args.self.now.reader r stream told messages is h))
    c.listen-heard.ensures.goes

pub returns-in-Some-clause-faults : goal.returns-in-Some-clause-faults
returns-in-Some-clause-faults c =
    let g = c.args.self.now.greeting in
    let r = c.in-Some.reader in
    let is : c.args.self.now.reader ≡ Some r = sym c.take.ensures.value ∙ c.in-Some.is in
    if_err c.listen-heard.result _ _ (λ f stops stream told messages h.
    listening_stops g.size.width g.size.height g.name.items r c.listen-heard.new.reader stream c.args.piece.now messages c.listen-heard.new.out.items (told ++ due_by g) f stops
    (in_messages g c.args.self.now.reader r stream told messages is h))
    c.listen-heard.ensures.faults

pub returns-in_err-taken-clause-faults : goal.returns-in_err-taken-clause-faults
returns-in_err-taken-clause-faults c =
    let p = err_from_is_err_and c.from_residual.result c.from_residual.ensures.1 in
    let s = c.args.self.now in
    let f = c.in_err-taken.field-0.0 in
    let none : s.reader ≡ None = search rules in
    rw (p.1, p.2) (λ stream told messages h.
    fed_ends s.greeting c.hear.new.self s.reader c.take.new.self stream c.args.piece.now told messages c.args.out.now.items f
    none c.take.ensures.after c.requires.empty c.in_err-taken.ensures.kept c.requires.sound c.in_err-taken.ensures.faults h)

pub returns-in_default-2-clause-goes : goal.returns-in_default-2-clause-goes
returns-in_default-2-clause-goes c = λ stream told messages h.
    let s = c.args.self.now in
    let none : s.reader ≡ None = search rules in
    let waits : c.in_ok-taken.field-0 ≡ None = search rules in
    fed_waits s.greeting c.hear.new.self s.reader c.take.new.self stream c.args.piece.now told messages c.args.out.now.items
    none c.take.ensures.after c.requires.empty c.in_ok-taken.ensures.kept c.requires.sound (rw waits at c.in_ok-taken.ensures.heard) h

pub returns-clause-goes : goal.returns-clause-goes
returns-clause-goes c =
    let s = c.args.self.now in
    let g = c.hear.new.self in
    let n = c.in-Some-2.taken in
    let none : s.reader ≡ None = search rules in
    let whole = rw c.in-Some-2.is at c.in_ok-taken.ensures.heard in
    on_ok c.listen-heard-2.result _ _ (λ goes stream told messages h.
    rest_goes g c.new-reader.result c.listen-heard-2.new.reader stream c.args.piece.now _ told messages c.listen-heard-2.new.out.items n (take_rest c.args.piece.now n) goes
    (fed_whole s.greeting g s.reader c.new-reader.result stream c.args.piece.now told messages n none c.new-reader.ensures c.in_ok-taken.ensures.kept c.requires.sound whole h))
    c.listen-heard-2.ensures.goes

pub returns-clause-faults : goal.returns-clause-faults
returns-clause-faults c =
    let s = c.args.self.now in
    let g = c.hear.new.self in
    let n = c.in-Some-2.taken in
    let none : s.reader ≡ None = search rules in
    let whole = rw c.in-Some-2.is at c.in_ok-taken.ensures.heard in
    if_err c.listen-heard-2.result _ _ (λ f stops stream told messages h.
    rest_stops g c.new-reader.result c.listen-heard-2.new.reader stream c.args.piece.now _ told messages c.listen-heard-2.new.out.items n f (take_rest c.args.piece.now n) stops
    (fed_whole s.greeting g s.reader c.new-reader.result stream c.args.piece.now told messages n none c.new-reader.ensures c.in_ok-taken.ensures.kept c.requires.sound whole h))
    c.listen-heard-2.ensures.faults
