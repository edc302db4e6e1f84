use Rattle.std.proofs.Common.{refl, ap}
use Rattle.fbs_export.proofs.Hearing.{told_by, opening_waits, stands_open, stands_heard}
use Rattle.terms.specs.declared.screen_size.ScreenSize.{ScreenSize}
use Rattle.fbs_export.proofs.stream.Stream.finish.Goals as goal

pub returns-in_default-clause-fault : goal.returns-in_default-clause-fault
returns-in_default-clause-fault g c = (refl, λ times s stands. opening_waits g.T.Tally.stands_for c.args.self times s (stands_open g.T.Tally.stands_for c.args.self times s c.in_default.is stands))

pub returns-clause-ok : goal.returns-clause-ok
returns-clause-ok g c = λ times s whole stands.
    told_by g.T.Tally.stands_for c.args.self c.in-Some.reader _ times s (stands_heard g.T.Tally.stands_for c.args.self c.in-Some.reader times s c.in-Some.is stands) whole
    (ap (λ (s : ScreenSize). s.width) c.size.ensures) (ap (λ (s : ScreenSize). s.height) c.size.ensures) c.into_name.ensures refl c.unfinished.ensures
