use Rattle.std.proofs.Common.{◌≡◌, ◌∙◌, rules, sym, ap}
use Rattle.terms.specs.Reading.{Got}
use Rattle.terms.specs.Number.{u16_at}
use Rattle.client_wire.specs.declared.message.ClientMessage.TheVariants as messages
use Rattle.client_wire.proofs.Fronts.{head_short, head_read, encodings_short, encodings_read}
use Rattle.client_wire.proofs.plain.set_encodings.Goals as goal

pub returns-in_default : goal.returns-in_default
returns-in_default c = head_short c.args.bytes.now c.in_default.ensures.reads

pub returns-in_default-field : goal.returns-in_default-field
returns-in_default-field c =
    let count : u16_at c.in-Some.head.now 1 ≡ c.read_u16-count.result = search rules in
    head_read c.args.bytes.now c.in-Some.head.now c.in-Some.body.now c.read_u16-count.result c.in-Some.ensures.reads count
    ∙ encodings_short c.read_u16-count.result c.in-Some.body.now c.in_default-field.ensures.reads

pub returns : goal.returns
returns c =
    let count : u16_at c.in-Some.head.now 1 ≡ c.read_u16-count.result = search rules in
    head_read c.args.bytes.now c.in-Some.head.now c.in-Some.body.now c.read_u16-count.result c.in-Some.ensures.reads count
    ∙ encodings_read c.read_u16-count.result c.in-Some.body.now c.in-Some-field.list.now c.in-Some-field.rest.now c.in-Some-field.ensures.reads
    ∙ ap (λ n. Got (messages.SetEncodings n) c.in-Some-field.rest.now) (sym c.in_ok-encodings.ensures)
