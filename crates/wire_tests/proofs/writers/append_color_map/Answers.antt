use Rattle.std.proofs.Common.{arith}
use Rattle.std.proofs.lemmas.Grind.{common_steps}
use Rattle.wire_tests.proofs.writers.append_color_map.Goals as goal

pub returns-in_err-extend_from_slice-clause-part : goal.returns-in_err-extend_from_slice-clause-part
returns-in_err-extend_from_slice-clause-part c = grind (arith, common_steps)

pub returns-in_err-extend_from_slice-2-clause-part : goal.returns-in_err-extend_from_slice-2-clause-part
returns-in_err-extend_from_slice-2-clause-part c = grind (arith, common_steps)

pub loop-color-preserved : goal.loop-color-preserved
loop-color-preserved c = grind (arith, common_steps)

pub returns-clause-ok : goal.returns-clause-ok
returns-clause-ok c = grind (arith, common_steps)

pub returns-clause-part : goal.returns-clause-part
returns-clause-part c = grind (arith, common_steps)
