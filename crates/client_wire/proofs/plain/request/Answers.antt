use Rattle.std.proofs.Common.{◌∙◌, sym, ap}
use Rattle.terms.specs.Reading.{Got}
use Rattle.client_wire.proofs.Fronts.{request_short, request_read}
use Rattle.client_wire.proofs.plain.request.Goals as goal

pub returns-in_default : goal.returns-in_default
returns-in_default c = request_short c.args.bytes.now c.in_default.ensures.reads

pub returns : goal.returns
returns c = request_read c.args.bytes.now c.in-Some.numbers.now c.in-Some.rest.now c.in-Some.ensures.reads ∙ ap (λ m. Got m c.in-Some.rest.now) (sym c.request_in.ensures)
