use Rattle.std.proofs.Common.{◌≡◌, ◌+◌, ◌/◌, ◌<◌, ◌∙◌, Bool, cond, length, ap, sym, arith}
use Rattle.pixel_sets.specs.Bits.{is_set, is_between}
use Rattle.pixel_sets.proofs.BitSets.{word_put, filled_more, none_between}
use Rattle.pixel_sets.proofs.bits.fill.Goals as goal

pub loop-next-init : goal.loop-next-init
loop-next-init c = record {
  begun = omega arith;
  within = c.requires.order;
  filled = λ k. sym (ap (λ (b : Bool). cond b c.args.value (is_set c.args.words.now k)) (none_between c.args.from k));
}

pub loop-next-preserved : goal.loop-next-preserved
loop-next-preserved c =
    let next = c.loop-next.next in
    let count = c.min-count.result in
    let within : next / 64 < length c.loop-next.words = omega (arith, c.loop-next-test.true, c.requires.within, c.loop-next.auto.words) in
    record {
      begun = omega arith;
      within = omega (arith, c.min-count.ensures, c.loop-next-test.true);
      filled = λ k. word_put c.loop-next.words c.with_bits.result next count c.args.value within (omega (arith, c.min-count.ensures)) c.with_bits.ensures k
          ∙ ap (cond (is_between next (next + count) k) c.args.value) (c.loop-next.invariant.filled k)
          ∙ filled_more c.args.from next (next + count) k c.args.value (is_set c.args.words.now k) c.loop-next.invariant.begun (omega arith);
    }

pub returns : goal.returns
returns c = λ k.
    let all : c.loop-next.next ≡ c.args.to = omega arith in
    rw all at (c.loop-next.invariant.filled k)
