use Rattle.connections.proofs.Reading.{reads_on}
use Rattle.connections.proofs.host.Host.ask.Goals as goal

pub returns-in_default-clause-read : goal.returns-in_default-clause-read
returns-in_default-clause-read g c = reads_on c.args.self.now c.tell.new.self _ c.tell.ensures.given c.read_piece-read.ensures.read
