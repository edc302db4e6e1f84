use Rattle.std.proofs.Common.{◌≡◌, refl, rules}
use Rattle.std.specs.Prelude.{nat_le}
use Rattle.terms.specs.Number.{u32_at}
use Rattle.rfb_wire.specs.Grammar.{text_limit}
use Rattle.rfb_wire.proofs.FrontOthers.{text_head_short, text_short, text_whole}
use Rattle.rfb_wire.proofs.plain.text.Goals as goal

pub returns-in_err-head : goal.returns-in_err-head
returns-in_err-head c =
    let short = c.in_err-head.ensures in
    rw c.from_residual.ensures (text_head_short c.args.bytes.now short.reads)

pub returns-in_err-rest : goal.returns-in_err-rest
returns-in_err-rest c =
    let count : u32_at c.in_ok-head.head.now 3 ≡ c.read_u32-count.result = search rules in
    let head = c.in_ok-head.ensures in
    let short = c.in_err-rest.ensures in
    rw c.from_residual-in_err-rest.ensures
    (text_short c.read_u32-count.result c.args.bytes.now c.in_ok-head.head.now c.in_ok-head.body.now head.reads count short.reads)

pub returns : goal.returns
returns c =
    let n = c.read_u32-count.result in
    let count : u32_at c.in_ok-head.head.now 3 ≡ n = search rules in
    let head = c.in_ok-head.ensures in
    let whole = c.in_ok-rest.ensures in
    text_whole n (nat_le n text_limit) c.args.bytes.now c.in_ok-head.head.now c.in_ok-head.body.now c.in_ok-rest.field-0-0.now c.in_ok-rest.rest.now head.reads count whole.reads refl
