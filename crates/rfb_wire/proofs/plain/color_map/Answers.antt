use Rattle.std.proofs.Common.{◌≡◌, rules}
use Rattle.terms.specs.Number.{u16_at}
use Rattle.rfb_wire.proofs.FrontOthers.{map_head_short, map_short, map_whole}
use Rattle.rfb_wire.proofs.plain.color_map.Goals as goal

pub returns-in_err-head : goal.returns-in_err-head
returns-in_err-head c =
    let short = c.in_err-head.ensures in
    rw c.from_residual.ensures (map_head_short c.args.bytes.now short.reads)

pub returns-in_err-rest : goal.returns-in_err-rest
returns-in_err-rest c =
    let count : u16_at c.in_ok-head.head.now 3 ≡ c.read_u16-count.result = search rules in
    let head = c.in_ok-head.ensures in
    let short = c.in_err-rest.ensures in
    rw c.from_residual-in_err-rest.ensures
    (map_short c.read_u16-count.result c.args.bytes.now c.in_ok-head.head.now c.in_ok-head.colors.now head.reads count short.reads)

pub returns : goal.returns
returns c =
    let count : u16_at c.in_ok-head.head.now 3 ≡ c.read_u16-count.result = search rules in
    let head = c.in_ok-head.ensures in
    let whole = c.in_ok-rest.ensures in
    map_whole c.read_u16-count.result c.args.bytes.now c.in_ok-head.head.now c.in_ok-head.colors.now c.in_ok-rest.field-0-0.now c.in_ok-rest.rest.now head.reads count whole.reads
