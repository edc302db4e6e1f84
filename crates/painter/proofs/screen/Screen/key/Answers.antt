use Rattle.std.proofs.Common.{length, ap, arith}
use Rattle.terms.specs.Area.{whole_area}
use Rattle.painter.proofs.Keys.{key_made, key_short}
use Rattle.painter.proofs.screen.Screen.key.Goals as goal

pub returns-in-Ok-clause-key : goal.returns-in-Ok-clause-key
returns-in-Ok-clause-key c =
    let screen = c.args.self.now in
    key_made c.args.format screen c.size-size.result c.host-host.result c.whole.result c.in_ok-encoding.encoding c.size-size.ensures c.host-host.ensures c.whole.ensures c.in_ok-encoding.ensures c.requires
    (c.known_colors.ensures (whole_area screen.width screen.height) (record { columns = omega arith; rows = omega arith }))
    c.new-bytes.result.items c.append_update.new.out.items c.deref.result.now c.new-bytes.ensures.items c.in_ok-append_update.ensures.ok c.deref.ensures.value
    c.in-Ok.message (λ n for same. c.in-Ok.ensures.whole n for same)

pub returns-in-Ok-clause-short : goal.returns-in-Ok-clause-short
returns-in-Ok-clause-short c =
    let short = key_short c.args.self.now c.size-size.result c.host-host.result c.whole.result c.in_ok-encoding.encoding c.size-size.ensures c.host-host.ensures c.whole.ensures
    c.new-bytes.result.items c.append_update.new.out.items c.deref.result.now c.new-bytes.ensures.items c.in_ok-append_update.ensures.ok c.deref.ensures.value in
    omega (arith, short, ap length c.in-Ok.ensures.ok.1)
