use Rattle.std.proofs.Common.{refl}
use Rattle.std.proofs.lemmas.Result.{err_from_is_err_and}
use Rattle.fbs_export.specs.Reader.{Hears}
use Rattle.fbs_export.proofs.Hearing.{hears_on, hears_fault, stands_heard}
use Rattle.fbs_export.proofs.stream.Stream.feed.Goals as goal

pub returns-in_err-hear-clause-fault : goal.returns-in_err-hear-clause-fault
returns-in_err-hear-clause-fault g c =
    let self = c.args.self.now in
    let p = err_from_is_err_and c.from_residual.result c.from_residual.ensures.1 in
    let f = c.in_err-hear.field-0.0 in
    let fault = rw c.new-hosts.ensures.items at c.in_err-hear.ensures.fault in
    rw (p.1, p.2) (λ times s stands.
    let a : Hears g.T.Tally.stands_for self c.in-Some.reader times s = stands_heard g.T.Tally.stands_for self c.in-Some.reader times s c.in-Some.is stands in
    hears_fault g.T.Tally.stands_for self c.hear.new.hosts.items c.in-Some.reader times s c.args.piece.now f a (fault a.no_fault))

pub returns-in-Some-clause-goes : goal.returns-in-Some-clause-goes
returns-in-Some-clause-goes g c = λ times s stands.
    let self = c.args.self.now in
    let a : Hears g.T.Tally.stands_for self c.in-Some.reader times s = stands_heard g.T.Tally.stands_for self c.in-Some.reader times s c.in-Some.is stands in
    let goes = rw c.new-hosts.ensures.items at c.in_ok-hear.ensures.goes in
    hears_on g.T.Tally.stands_for self _ c.in-Some.reader c.hear.new.reader c.hear.new.hosts.items times s c.args.piece.now a c.in_ok-hear.ensures.screen.0 c.in_ok-hear.ensures.screen.1 c.in_ok-hear.ensures.screen.2 refl c.in_ok-tell.ensures c.in_ok-hear.ensures.going goes

pub returns-in_err-open-clause-fault : goal.returns-in_err-open-clause-fault
returns-in_err-open-clause-fault g c =
    let p = err_from_is_err_and c.from_residual-in_err-open.result c.from_residual-in_err-open.ensures.1 in
    rw (p.1, p.2) (c.in_err-open.ensures.fault c.in_default.is)
