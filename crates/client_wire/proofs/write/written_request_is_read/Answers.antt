use Rattle.client_wire.proofs.ReadBack.{request_back}
use Rattle.client_wire.proofs.write.written_request_is_read.Goals as goal

pub returns : goal.returns
returns c = request_back
