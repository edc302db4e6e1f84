use Rattle.std.proofs.Common.{arith}
use Rattle.pixel_format.proofs.Lanes.{shifted_whole}
use Rattle.pixel_format.proofs.format.shifted.Goals as goal

pub returns : goal.returns
returns c = shifted_whole 32 c.args.value c.args.channel.max c.args.channel.shift c.shift_of.result c.requires.within c.requires.fits c.shift_of.ensures.some

pub overflow_shl-result : goal.overflow_shl-result
overflow_shl-result c = c.shift_of.ensures.below 32 (omega arith) c.requires.fits
