use Rattle.rfb_wire.proofs.Placed.{recorded_placed}
use Rattle.rfb_wire.proofs.message.HostMessage.rectangles.Goals as goal

pub returns-clause-placed : goal.returns-clause-placed
returns-clause-placed c = rw (← c.self.view_is) (recorded_placed _ c.self.invariant)
