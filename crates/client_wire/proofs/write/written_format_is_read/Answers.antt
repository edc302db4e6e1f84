use Rattle.client_wire.proofs.ReadBack.{format_back}
use Rattle.client_wire.proofs.write.written_format_is_read.Goals as goal

pub returns : goal.returns
returns c = format_back
