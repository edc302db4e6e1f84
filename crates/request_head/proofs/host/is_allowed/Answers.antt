use Rattle.request_head.proofs.Names.{allowed_by_name, allowed_by_none}
use Rattle.request_head.proofs.host.is_allowed.Goals as goal

pub returns-in-Some : goal.returns-in-Some
returns-in-Some c = allowed_by_name c.args.names.now c.args.host.now c.in-Some.name.now c.is_own.result c.is_own-in-Some.result c.in-Some.ensures c.is_own.ensures c.if-is_own.false c.is_own-in-Some.ensures

pub returns-in-None : goal.returns-in-None
returns-in-None c = allowed_by_none c.args.names.now c.args.host.now c.is_own.result c.in-None.ensures c.is_own.ensures c.if-is_own.false
