use Rattle.std.proofs.Common.{arith}
use Rattle.std.proofs.lemmas.Grind.{common_steps}
use Rattle.pixel_format.proofs.format.PixelFormat.number.Goals as goal

pub returns-in-true-len2 : goal.returns-in-true-len2
returns-in-true-len2 c = grind (arith, common_steps)

pub returns-in-true-len4 : goal.returns-in-true-len4
returns-in-true-len4 c = grind (arith, common_steps)

pub returns-in-false-len2 : goal.returns-in-false-len2
returns-in-false-len2 c = grind (arith, common_steps)

pub returns-in-false-len4 : goal.returns-in-false-len4
returns-in-false-len4 c = grind (arith, common_steps)

pub returns-in_default-len1 : goal.returns-in_default-len1
returns-in_default-len1 c = grind (arith, common_steps)
