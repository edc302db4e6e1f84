use Rattle.std.proofs.Common.{arith}
use Rattle.pixel_format.proofs.Lanes.{shift_below}
use Rattle.pixel_format.proofs.format.shift_of.Goals as goal

pub returns-clause-below : goal.returns-clause-below
returns-clause-below c = λ bits some fits. shift_below bits 1 c.args.channel.max c.args.channel.shift (omega arith) (omega arith) fits
