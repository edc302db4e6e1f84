use Rattle.std.proofs.Common.{sym, subst}
use Rattle.host_stream.specs.Streams.{HasGiven, Stream}
use Rattle.host_stream.proofs.Saying.{none_came, none_came_at_end}
use Rattle.host_stream.proofs.stream.HostStream.read_from.Goals as goal

pub returns-in-Err-clause-given : goal.returns-in-Err-clause-given
returns-in-Err-clause-given g c bytes given h = none_came bytes given _ _ h c.in-Err.ensures.bytes

pub returns-in-Err-2-clause-given : goal.returns-in-Err-2-clause-given
returns-in-Err-2-clause-given g c bytes given h =
    let was = subst (λ (t : Stream). HasGiven t bytes given) (sym c.self.view_is) h in
    none_came_at_end _ bytes given _ _ was c.in-Err-2.ensures.bytes
