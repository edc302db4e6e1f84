use Rattle.host_session.proofs.Sessions.{new_stands}
use Rattle.host_session.proofs.exchange.Exchange.new.Goals as goal

pub returns-clause-stands : goal.returns-clause-stands
returns-clause-stands c = λ expected.
    new_stands expected c.new.result.position c.new.result.kept.items c.new.ensures.position c.new.ensures.none
