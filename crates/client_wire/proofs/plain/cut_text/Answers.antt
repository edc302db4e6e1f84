use Rattle.std.proofs.Common.{◌≡◌, rules}
use Rattle.terms.specs.Number.{u32_at}
use Rattle.client_wire.proofs.Fronts.{text_short, text_read}
use Rattle.client_wire.proofs.plain.cut_text.Goals as goal

pub returns-in_default : goal.returns-in_default
returns-in_default c = text_short c.args.bytes.now c.in_default.ensures.reads

pub returns : goal.returns
returns c =
    let count : u32_at c.in-Some.head.now 3 ≡ c.read_u32-length.result = search rules in
    rw (text_read c.args.bytes.now c.in-Some.head.now c.in-Some.text.now c.read_u32-length.result c.in-Some.ensures.reads count) c.input.ensures
