use Rattle.request_head.proofs.Whole.{sent_elsewhere}
use Rattle.request_head.proofs.head.check_host.Goals as goal

pub returns-else-is_allowed : goal.returns-else-is_allowed
returns-else-is_allowed c = λ method. sent_elsewhere c.args.names.now c.args.version _ c.in-Some.host.now c.is_allowed.result (rw c.in-Some.is at c.in_ok-host.ensures) c.is_allowed.ensures c.if-is_allowed.false
