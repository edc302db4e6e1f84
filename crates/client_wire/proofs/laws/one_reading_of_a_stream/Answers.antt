use Rattle.std.proofs.Common.{refl}
use Rattle.client_wire.specs.Grammar.{message_at}
use Rattle.client_wire.proofs.Local.{message_local}
use Rattle.client_wire.proofs.Streams.{one_reading}
use Rattle.client_wire.proofs.laws.one_reading_of_a_stream.Goals as goal

pub returns : goal.returns
returns c = λ stream parts others rest other. one_reading message_at message_local stream stream parts others rest other refl
