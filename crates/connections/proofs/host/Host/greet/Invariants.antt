use Rattle.host_stream.specs.Streams.{HasRead, IsForSame}
use Rattle.connections.proofs.host.Host.greet.Given as goal

abbrev pub invariant-loop : goal.invariant-loop
invariant-loop g l = HasRead l.fn.self l.self × IsForSame l.fn.self.session l.self.session
