use Rattle.client_wire.proofs.ReadBack.{encodings_back}
use Rattle.client_wire.proofs.write.written_encodings_are_read.Goals as goal

pub returns : goal.returns
returns c = encodings_back
