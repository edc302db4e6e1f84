use Rattle.std.proofs.Common.{refl}
use Rattle.client_wire.proofs.Streams.{one_reading}
use Rattle.rfb_wire.specs.Grammar.{message_at}
use Rattle.rfb_wire.proofs.Local.{message_local}
use Rattle.rfb_wire.proofs.laws.one_reading_of_a_stream.Goals as goal

pub returns : goal.returns
returns c = λ limit width height stream messages others rest other.
    one_reading (message_at limit width height) (message_local limit width height) stream stream messages others rest other refl
