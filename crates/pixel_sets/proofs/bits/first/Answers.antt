use Rattle.std.proofs.Common.{◌≡◌, ◌+◌, ◌%◌, ◌≤◌, refl, arith}
use Rattle.pixel_sets.proofs.BitSets.{none_in_word, ends_in_word, none_more, first_here}
use Rattle.pixel_sets.proofs.bits.first.Goals as goal

pub loop-next-preserved : goal.loop-next-preserved
loop-next-preserved c =
    let words = c.args.words.now in
    let next = c.loop-next.next in
    let count = c.min-count.result in
    let fits : next % 64 + count ≤ 64 = omega (arith, c.min-count.ensures) in
    record {
      begun = omega arith;
      within = omega (arith, c.min-count.ensures, c.loop-next-test.true);
      none = none_more words c.args.from next (next + count) c.loop-next.invariant.none
          (λ k e. none_in_word words _ c.mask.result next count fits refl c.mask.ensures c.in_default.ensures k e);
    }

pub returns-in-Some : goal.returns-in-Some
returns-in-Some c =
    let words = c.args.words.now in
    let next = c.loop-next.next in
    let count = c.min-count.result in
    let fits : next % 64 + count ≤ 64 = omega (arith, c.min-count.ensures) in
    first_here words c.args.from next (next + count) c.args.to _ c.loop-next.invariant.begun (omega (arith, c.min-count.ensures, c.loop-next-test.true)) c.loop-next.invariant.none
    (ends_in_word words _ c.mask.result next count c.in-Some.ends fits refl c.mask.ensures c.in-Some.ensures)

pub returns : goal.returns
returns c = λ k e.
    let all : c.loop-next.next ≡ c.args.to = omega arith in
    (rw all at c.loop-next.invariant.none) k e
