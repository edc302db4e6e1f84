use Rattle.std.proofs.Common.{arith}
use Rattle.std.proofs.lemmas.Grind.{common_steps}
use Rattle.rre.proofs.Appended.{part_appended}
use Rattle.rre.proofs.append.append_part.Goals as goal

pub returns-clause-ok : goal.returns-clause-ok
returns-clause-ok c =
    part_appended c.args.format.now c.args.part c.args.bytes.now.items c.append_pixel.new.bytes.items c.extend_from_slice.new.self.items c.area_of.result
    c.in_ok-append_pixel.ensures.ok c.area_of.ensures.numbers c.in_ok-extend_from_slice.ensures.items

pub returns-clause-written : goal.returns-clause-written
returns-clause-written c = grind (arith, common_steps)

pub returns-clause-grows : goal.returns-clause-grows
returns-clause-grows c = grind (arith, common_steps)
