use Rattle.client_wire.proofs.Fronts.{input_short, input_read}
use Rattle.client_wire.proofs.plain.input.Goals as goal

pub returns-in_default : goal.returns-in_default
returns-in_default c = input_short c.args.kind c.args.left c.args.bytes.now c.in_default.ensures.reads

pub returns : goal.returns
returns c = input_read c.args.kind c.args.left c.args.bytes.now _ c.in-Some.rest.now c.in-Some.ensures.reads
