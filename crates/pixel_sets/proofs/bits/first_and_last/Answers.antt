use Rattle.std.proofs.Common.{◌≡◌, ℕ, ◌+◌, ◌%◌, ◌≤◌, Bool, refl, arith}
use Rattle.std.specs.Prelude.{◌&&◌, None}
use Rattle.pixel_sets.specs.Bits.{is_set, is_between}
use Rattle.pixel_sets.proofs.BitSets.{none_in_word, ends_in_word, after_more, nothing_more, before_next}
use Rattle.pixel_sets.proofs.bits.first_and_last.Goals as goal
use Rattle.pixel_sets.proofs.bits.first_and_last.Goals.{in-Some, in_default}

pub loop-next-preserved : goal.loop-next-preserved
loop-next-preserved c =
    let words = c.args.words.now in
    let from = c.args.from in
    let next = c.loop-next.next in
    let count = c.min-count.result in
    let fits : next % 64 + count ≤ 64 = omega (arith, c.min-count.ensures) in
    let old : ℕ → Bool = λ k. is_between from next k && is_set words k in
    let new : ℕ → Bool = λ k. is_between next (next + count) k && is_set words k in
    record {
      begun = omega arith;
      within = omega (arith, c.min-count.ensures, c.loop-next-test.true);
      are = after_more words from next (next + count) c.match-ends_of_word.found c.loop-next.invariant.begun (omega arith) (elim c.match-ends_of_word.branch [
        | in-Some w ↦
            (let ends = ends_in_word words _ c.mask.result next count w.in-Some.ends fits refl c.mask.ensures (rw w.in-Some.is at c.ends_of_word.ensures) in
            rw w.found-is (w.joined.ensures old new c.loop-next.invariant.are ends (λ k l. before_next words from next (next + count) k l)))
        | in_default w ↦
            (let none : c.ends_of_word.result ≡ None = w.in_default.is in
            rw w.found-is (nothing_more old new (λ k e. none_in_word words _ c.mask.result next count fits refl c.mask.ensures (rw none at c.ends_of_word.ensures) k e) c.loop-next.found c.loop-next.invariant.are))
      ]);
    }

pub returns : goal.returns
returns c =
    let all : c.loop-next.next ≡ c.args.to = omega arith in
    rw all at c.loop-next.invariant.are
