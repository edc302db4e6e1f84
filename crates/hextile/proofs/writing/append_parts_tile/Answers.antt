use Rattle.std.proofs.Common.{refl, arith}
use Rattle.std.proofs.lemmas.Grind.{common_steps}
use Rattle.hextile.proofs.Written.{parts_tile_appended}
use Rattle.hextile.proofs.writing.append_parts_tile.Goals as goal

pub returns-clause-ok : goal.returns-clause-ok
returns-clause-ok c = λ w h are.
    parts_tile_appended c.args.format.now w h c.args.mask c.args.background c.args.foreground c.args.parts.now c.byte_of.result _ _ _ _ _
    c.byte_of.ensures.mask c.byte_of.ensures.known refl c.in_ok-push.ensures.items c.in_ok-append_head.ensures.ok (c.in_ok-append_parts.ensures.ok w h are)

pub returns-in_err-append_head-clause-grows : goal.returns-in_err-append_head-clause-grows
returns-in_err-append_head-clause-grows c = grind (arith, common_steps)

pub returns-in_err-append_parts-clause-grows : goal.returns-in_err-append_parts-clause-grows
returns-in_err-append_parts-clause-grows c = grind (arith, common_steps)

pub returns-clause-written : goal.returns-clause-written
returns-clause-written c = grind (arith, common_steps)

pub returns-clause-grows : goal.returns-clause-grows
returns-clause-grows c = grind (arith, common_steps)
