use Rattle.std.proofs.Common.{refl, arith}
use Rattle.pixel_sets.proofs.BitSets.{word_ends}
use Rattle.pixel_sets.proofs.bits.ends_of_word.Goals as goal

pub returns : goal.returns
returns c = word_ends _ c.args.word _ _ c.ranges.word refl (omega arith) (omega arith) refl refl
