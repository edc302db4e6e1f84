use Rattle.std.proofs.Common.{◌≡◌, [], ◌++◌, sym, ◌∙◌}
use Rattle.rfb_wire.proofs.Messages.{message_is_read}
use Rattle.rfb_wire.proofs.Local.{message_local}
use Rattle.rfb_wire.proofs.laws.no_message_begins_another.Goals as goal

pub returns : goal.returns
returns c = λ limit width height bytes more rectangles others a b.
    let local = rw (message_is_read limit width height bytes rectangles a) at (message_local limit width height bytes more) in
    let both = sym local ∙ message_is_read limit width height (bytes ++ more) others b in
    let is : more ≡ [] = cc in
    is
