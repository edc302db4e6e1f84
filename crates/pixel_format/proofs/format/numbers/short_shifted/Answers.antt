use Rattle.std.proofs.Common.{arith}
use Rattle.pixel_format.proofs.Lanes.{shifted_whole}
use Rattle.pixel_format.proofs.format.numbers.short_shifted.Goals as goal

pub returns : goal.returns
returns c = shifted_whole 16 c.args.value c.args.channel.max c.args.channel.shift c.shift_of.result c.requires.within c.requires.fits c.shift_of.ensures.some

pub overflow_shl-result : goal.overflow_shl-result
overflow_shl-result c = c.shift_of.ensures.below 16 (omega arith) c.requires.fits

pub overflow_cast-result : goal.overflow_cast-result
overflow_cast-result c =
    let below = c.shift_of.ensures.below 16 (omega arith) c.requires.fits in
    omega arith
