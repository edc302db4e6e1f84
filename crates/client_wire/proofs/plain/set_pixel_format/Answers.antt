use Rattle.std.proofs.Common.{◌∙◌}
use Rattle.std.proofs.lemmas.Result.{err_from_is_err_and}
use Rattle.client_wire.proofs.Fronts.{pixel_format_short, pixel_format_read, unless_memory}
use Rattle.client_wire.proofs.plain.set_pixel_format.Goals as goal

pub returns-in_default : goal.returns-in_default
returns-in_default c = pixel_format_short c.args.bytes.now c.in_default.ensures.reads

pub returns-in_err-message : goal.returns-in_err-message
returns-in_err-message c =
    let p = err_from_is_err_and c.from_residual.result c.from_residual.ensures.1 in
    rw (p.1, p.2) (unless_memory _ _
    (pixel_format_read c.args.bytes.now c.in-Some.format.now c.in-Some.rest.now c.in-Some.ensures.reads ∙ c.in_err-message.ensures c.in-Some.rest.now))

pub returns : goal.returns
returns c = pixel_format_read c.args.bytes.now c.in-Some.format.now c.in-Some.rest.now c.in-Some.ensures.reads ∙ c.in_ok-message.ensures c.in-Some.rest.now
