use Rattle.std.proofs.Common.{refl}
use Rattle.connections.proofs.host.MessagesHostSourceTicket.TheImpl.Goals as goal

-- no account is kept of a socket
pub next-tells : goal.next-tells
next-tells g x c = record { sized = c.ensures.sized; stays = c.ensures.stays; given = λ modelled. absurd modelled }

pub accepted-tells : goal.accepted-tells
accepted-tells g x c = record { stays = refl; told = λ modelled. absurd modelled }
