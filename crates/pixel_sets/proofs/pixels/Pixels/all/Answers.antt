use Rattle.std.proofs.Common.{◌≡◌, ◌*◌, replicate, refl, arith}
use Rattle.pixel_sets.specs.Pixels.{tiles_of}
use Rattle.pixel_sets.proofs.Held.{none_set}
use Rattle.pixel_sets.proofs.pixels.Pixels.all.Goals as goal

pub invariant_of-pixels : goal.invariant_of-pixels
invariant_of-pixels c =
    let words = c.in_ok-words.words in
    let summary = c.in_ok-summary.summary in
    let zeros : words.items ≡ replicate (4 * (c.tiles_of.result * c.tiles_of-2.result)) 0 = c.in_ok-words.ensures.items_if_clones_equal (λ _ e. e) in
    let many : c.tiles_of.result * c.tiles_of-2.result ≡ tiles_of c.args.size.height * tiles_of c.args.size.width = rw (c.tiles_of.ensures.is, c.tiles_of-2.ensures.is) refl in
    record {
      wide = omega arith;
      high = omega arith;
      bits = omega (arith, c.in_ok-words.ensures.len, many);
      tiles = omega (arith, c.in_ok-summary.ensures.len, c.div_ceil.ensures, many);
      are = λ x y across marked. absurd (none_set (4 * (c.tiles_of.result * c.tiles_of-2.result)) _ (rw zeros at marked));
    }
