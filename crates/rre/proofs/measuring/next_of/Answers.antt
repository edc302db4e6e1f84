use Rattle.std.proofs.Common.{◌≡◌, ◌-◌, suc, arith, sym, ap}
use Rattle.rre.specs.Grammar.{subrectangles_at}
use Rattle.rre.specs.Measuring.{go_on, resume}
use Rattle.terms.specs.Measuring.{judged}
use Rattle.rre.proofs.Steps.{none_left}
use Rattle.rre.proofs.measuring.next_of.Goals as goal

pub returns-then-count-eq0-clause-goes : goal.returns-then-count-eq0-clause-goes
unfolding go_on
returns-then-count-eq0-clause-goes c = λ format w h more. rw c.if-count-eq0.true (sym (none_left format w h more))

pub returns-else-count-eq0-clause-goes : goal.returns-else-count-eq0-clause-goes
unfolding go_on resume
returns-else-count-eq0-clause-goes c = λ format w h more.
    let is : suc (c.args.count - 1) ≡ c.args.count = omega arith in
    ap (λ n. judged (subrectangles_at format w h n more)) is
