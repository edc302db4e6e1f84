use Rattle.std.proofs.Common.{arith}
use Rattle.std.proofs.lemmas.Grind.{common_steps}
use Rattle.pixel_format.proofs.format.PixelFormat.numbers_of.Goals as goal

pub loop-color-preserved : goal.loop-color-preserved
loop-color-preserved c = grind (arith, common_steps)
