use Rattle.std.proofs.Common.{◌*◌, ◌+◌, ◌∙◌, cond, ap, arith}
use Rattle.pixel_sets.specs.Bits.{is_set, is_between}
use Rattle.pixel_sets.proofs.BitSets.{word_filled, filled_more}
use Rattle.pixel_sets.proofs.bits.fill_words.Goals as goal

pub loop-pixel-preserved : goal.loop-pixel-preserved
loop-pixel-preserved c = λ k.
    let pixel = c.loop-pixel.pixel in
    let from = c.args.from in
    let value = c.args.value in
    word_filled c.loop-pixel.words c.with_bits-whole.result pixel value (omega (arith, c.loop-pixel-test.true, c.requires.within, c.loop-pixel.auto.words)) c.with_bits-whole.ensures k
    ∙ ap (cond (is_between (64 * pixel) (64 * (pixel + 1)) k) value) (c.loop-pixel.invariant k)
    ∙ filled_more (64 * from) (64 * pixel) (64 * (pixel + 1)) k value (is_set c.args.words.now k) (omega (arith, c.loop-pixel.auto.pixel)) (omega arith)
