use Rattle.std.proofs.Common.{None, Some, sym, ◌∙◌}
use Rattle.client_wire.proofs.Fronts.{type_short, typed_read}
use Rattle.client_wire.proofs.plain.read_client_message.Goals as goal

pub returns-in_default : goal.returns-in_default
returns-in_default c = type_short c.args.bytes.now c.in_default.ensures.reads

pub returns-in_default-from_number : goal.returns-in_default-from_number
returns-in_default-from_number c =
    typed_read c.args.bytes.now c.in-Some.first.now c.in-Some.rest.now None c.in-Some.ensures.reads (sym c.from_number.ensures ∙ c.in_default-from_number.is)

pub returns : goal.returns
returns c =
    rw (typed_read c.args.bytes.now c.in-Some.first.now c.in-Some.rest.now (Some c.in-Some-from_number.kind) c.in-Some.ensures.reads
    (sym c.from_number.ensures ∙ c.in-Some-from_number.is)) c.body.ensures
