use Rattle.std.proofs.Common.{arith}
use Rattle.std.proofs.lemmas.Grind.{common_steps}
use Rattle.rre.proofs.Appended.{data_appended}
use Rattle.rre.proofs.append.append_data.Goals as goal

pub returns-clause-ok : goal.returns-clause-ok
returns-clause-ok c =
    data_appended c.args.format.now c.args.background c.args.parts.now c.count_of.result c.args.bytes.now.items c.extend_from_slice.new.self.items c.append_pixel.new.bytes.items c.append_parts.new.bytes.items
    c.count_of.ensures.size c.count_of.ensures.value c.in_ok-extend_from_slice.ensures.items c.in_ok-append_pixel.ensures.ok c.in_ok-append_parts.ensures.ok

pub returns-in_err-append_pixel-clause-grows : goal.returns-in_err-append_pixel-clause-grows
returns-in_err-append_pixel-clause-grows c = grind (arith, common_steps)

pub returns-in_err-append_parts-clause-grows : goal.returns-in_err-append_parts-clause-grows
returns-in_err-append_parts-clause-grows c = grind (arith, common_steps)

pub returns-clause-written : goal.returns-clause-written
returns-clause-written c = grind (arith, common_steps)

pub returns-clause-grows : goal.returns-clause-grows
returns-clause-grows c = grind (arith, common_steps)
