use Rattle.std.proofs.Common.{sym, ◌∙◌}
use Rattle.client_wire.proofs.Relation.{message_is_read}
use Rattle.client_wire.proofs.laws.one_reading_of_bytes.Goals as goal

pub returns : goal.returns
returns c = λ bytes m other a b.
    let both = sym (message_is_read bytes m a) ∙ message_is_read bytes other b in
    cc
