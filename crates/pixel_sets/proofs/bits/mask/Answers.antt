use Rattle.std.proofs.Common.{arith}
use Rattle.pixel_sets.proofs.BitSets.{mask_bits}
use Rattle.pixel_sets.proofs.bits.mask.Goals as goal

pub returns : goal.returns
returns c = λ i lt. mask_bits c.args.from c.args.to i (omega arith) c.requires.within lt
