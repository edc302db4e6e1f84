use Rattle.std.proofs.Common.{ℕ, false, suc, sym, subst, arith}
use Rattle.rre.specs.declared.cover.Count.{Count}
use Rattle.rre.specs.Numbered.{IsFirstOf}
use Rattle.rre.proofs.Counts.{unequal, found_here, first_on_by_one, new_on_by_one}
use Rattle.rre.proofs.cover.find.Goals as goal

abbrev nothing : Count
nothing = record { number = 0; times = 0 }

pub returns-then-counts-index-clause-found : goal.returns-then-counts-index-clause-found
returns-then-counts-index-clause-found c =
    let i = c.loop-index.index in
    subst (λ (n : ℕ). IsFirstOf c.args.counts.now c.args.number n) (omega arith)
    (c.loop-index.invariant.first 0 (found_here c.args.counts.now i c.args.number nothing c.loop-index-test.true (sym c.if-counts-index.true)))

pub loop-index-preserved : goal.loop-index-preserved
loop-index-preserved c =
    let i = c.loop-index.index in
    let counts = c.args.counts.now in
    record {
      first = λ j first.
          subst (λ (n : ℕ). IsFirstOf counts c.args.number n) (omega arith)
          (c.loop-index.invariant.first (suc j) (first_on_by_one counts i c.args.number j nothing c.loop-index-test.true (unequal _ _ c.if-counts-index.false) first));
      new = λ new. c.loop-index.invariant.new (new_on_by_one counts i c.args.number nothing c.loop-index-test.true (unequal _ _ c.if-counts-index.false) new);
    }
