use Rattle.std.proofs.Common.{◌++◌, reverse, sym, subst}
use Rattle.host_session.specs.Session.{Session}
use Rattle.host_stream.specs.Streams.{HasGiven, Holds, Stream}
use Rattle.host_stream.proofs.Saying.{says}
use Rattle.host_stream.proofs.stream.HostStream.say.Goals as goal

pub returns-clause-given : goal.returns-clause-given
returns-clause-given c bytes given h =
    let s = c.self.inside.session in
    let was = subst (λ (t : Stream). HasGiven t bytes given) (sym c.self.view_is) h in
    record {
      sent = was.sent ++ s.due;
      holds = subst (λ (t : Session). Holds t.fault t bytes (given ++ reverse c.self.inside.waiting.items) (was.sent ++ s.due)) (sym c.in_ok-out.ensures.ok.1) (says s.fault s bytes _ was.sent was.holds);
    }
