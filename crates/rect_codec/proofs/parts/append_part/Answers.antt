use Rattle.std.proofs.Common.{arith}
use Rattle.std.proofs.lemmas.Grind.{common_steps}
use Rattle.rect_codec.proofs.parts.append_part.Goals as goal

pub append_numbers-requires-clause-size : goal.append_numbers-requires-clause-size
append_numbers-requires-clause-size c = grind (arith, common_steps)

pub append_raw-requires-clause-size : goal.append_raw-requires-clause-size
append_raw-requires-clause-size c = grind (arith, common_steps)

pub returns-in-Copy-clause-ok : goal.returns-in-Copy-clause-ok
returns-in-Copy-clause-ok c = grind (arith, common_steps)
