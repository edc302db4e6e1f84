use Rattle.std.proofs.Common.{arith}
use Rattle.std.proofs.lemmas.Grind.{common_steps}
use Rattle.hextile.proofs.Written.{head_appended, count_there, count_away}
use Rattle.hextile.proofs.writing.append_head.Goals as goal

pub returns-in_ok-push-clause-ok : goal.returns-in_ok-push-clause-ok
returns-in_ok-push-clause-ok c =
    let mask = c.args.mask in
    head_appended c.args.format.now mask c.args.background c.args.foreground c.args.count _ _ _ _
    c.in_ok-append_pixel_if.ensures.ok c.in_ok-append_pixel_if-2.ensures.ok
    (count_there mask.subrectangles c.args.count _ _ c.if-mask.true c.in_ok-push.ensures.items)

pub returns-else-mask-clause-ok : goal.returns-else-mask-clause-ok
returns-else-mask-clause-ok c =
    let mask = c.args.mask in
    head_appended c.args.format.now mask c.args.background c.args.foreground c.args.count _ _ _ _
    c.in_ok-append_pixel_if.ensures.ok c.in_ok-append_pixel_if-2.ensures.ok
    (count_away mask.subrectangles c.args.count _ c.if-mask.false)

pub returns-in_err-append_pixel_if-2-clause-grows : goal.returns-in_err-append_pixel_if-2-clause-grows
returns-in_err-append_pixel_if-2-clause-grows c = grind (arith, common_steps)

pub returns-in_err-push-clause-grows : goal.returns-in_err-push-clause-grows
returns-in_err-push-clause-grows c = grind (arith, common_steps)

pub returns-in_ok-push-clause-written : goal.returns-in_ok-push-clause-written
returns-in_ok-push-clause-written c = grind (arith, common_steps)

pub returns-in_ok-push-clause-grows : goal.returns-in_ok-push-clause-grows
returns-in_ok-push-clause-grows c = grind (arith, common_steps)

pub returns-else-mask-clause-written : goal.returns-else-mask-clause-written
returns-else-mask-clause-written c = grind (arith, common_steps)

pub returns-else-mask-clause-grows : goal.returns-else-mask-clause-grows
returns-else-mask-clause-grows c = grind (arith, common_steps)
