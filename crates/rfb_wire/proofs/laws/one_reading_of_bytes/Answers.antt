use Rattle.std.proofs.Common.{sym, ◌∙◌}
use Rattle.rfb_wire.proofs.Messages.{message_is_read}
use Rattle.rfb_wire.proofs.laws.one_reading_of_bytes.Goals as goal

pub returns : goal.returns
returns c = λ limit width height bytes rectangles others a b.
    let both = sym (message_is_read limit width height bytes rectangles a) ∙ message_is_read limit width height bytes others b in
    cc
