use Rattle.std.proofs.Common.{◌≡◌, [], ◌++◌, sym, ◌∙◌}
use Rattle.client_wire.proofs.Relation.{message_is_read}
use Rattle.client_wire.proofs.Local.{message_local}
use Rattle.client_wire.proofs.laws.no_message_begins_another.Goals as goal

pub returns : goal.returns
returns c = λ bytes more m other a b.
    let local = rw (message_is_read bytes m a) at (message_local bytes more) in
    let both = sym local ∙ message_is_read (bytes ++ more) other b in
    let is : more ≡ [] = cc in
    is
