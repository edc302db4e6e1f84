use Rattle.std.proofs.Common.{◌≡◌, rules}
use Rattle.terms.specs.Number.{u16_at}
use Rattle.rfb_wire.specs.Grammar.{rectangles_at}
use Rattle.rfb_wire.proofs.FromFront.{type_short, head_short, head_read, says_recorded}
use Rattle.rfb_wire.proofs.plain.update.Goals as goal

pub returns-in_default : goal.returns-in_default
returns-in_default c = type_short c.args.size.width c.args.size.height c.args.bytes.now c.in_default.ensures.reads

pub returns-in_default-field : goal.returns-in_default-field
returns-in_default-field c = head_short c.args.size.width c.args.size.height c.args.bytes.now _ c.in-Some.head.now c.in-Some.ensures.reads c.in_default-field.ensures.reads

pub returns : goal.returns
returns c =
    let count : u16_at c.in-Some-field.numbers.now 1 ≡ c.read_u16-count.result = search rules in
    rw (head_read c.args.size.width c.args.size.height c.read_u16-count.result c.args.bytes.now _ c.in-Some.head.now c.in-Some-field.numbers.now c.in-Some-field.body.now
    c.in-Some.ensures.reads c.in-Some-field.ensures.reads count)
    (says_recorded (λ x. x.0.items) (λ x. x.1.now) c.rectangles.result (rectangles_at c.args.size.width c.args.size.height c.read_u16-count.result 4 c.in-Some-field.body.now) c.rectangles.ensures)
