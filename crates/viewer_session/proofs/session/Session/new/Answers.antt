use Rattle.viewer_session.proofs.Streams.{starts}
use Rattle.viewer_session.proofs.session.Session.new.Goals as goal

pub returns-clause-after : goal.returns-clause-after
returns-clause-after c = starts c.new-2.result c.new-2.ensures.heard c.new-2.ensures.sent
