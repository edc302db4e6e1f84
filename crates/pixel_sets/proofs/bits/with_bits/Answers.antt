use Rattle.std.proofs.Common.{◌≡◌, true, false, refl, rules}
use Rattle.pixel_sets.proofs.BitSets.{ones_put, zeros_put}
use Rattle.pixel_sets.proofs.bits.with_bits.Goals as goal

pub returns-then-value : goal.returns-then-value
returns-then-value c = λ i lt.
    let is : c.args.value ≡ true = search rules in
    rw is (ones_put c.args.word c.mask-mask.result i _ (c.mask-mask.ensures i lt))

pub returns-else-value : goal.returns-else-value
returns-else-value c = λ i lt.
    let is : c.args.value ≡ false = search rules in
    rw is (zeros_put _ c.args.word c.mask-mask.result i _ c.ranges.word refl c.mask-mask.type_inv lt (c.mask-mask.ensures i lt))
