use Rattle.std.proofs.Common.{◌≡◌, ◌+◌, ◌∙◌, ◌++◌, length, take, sym, ap, refl, arith, append_assoc, add-one}
use Rattle.std.proofs.lemmas.Result.{err_from_is_err_and}
use Rattle.rre.specs.declared.measuring.Measuring.TheVariants as stages
use Rattle.rre.specs.Grammar.{head_bytes, subrectangles_at}
use Rattle.rre.specs.Measuring.{go_on, resume}
use Rattle.terms.specs.Measuring.{judged}
use Rattle.rre.proofs.Steps.{head_whole, parts_of, taken_after}
use Rattle.rre.proofs.measuring.Measuring.run.Goals as goal

pub returns-then-bytes-head-clause-goes : goal.returns-then-bytes-head-clause-goes
unfolding go_on
returns-then-bytes-head-clause-goes c = λ more. refl

pub returns-in_err-parts-in-Head-clause-refused : goal.returns-in_err-parts-in-Head-clause-refused
returns-in_err-parts-in-Head-clause-refused c =
    let p = err_from_is_err_and c.from_residual.result c.from_residual.ensures.1 in
    let f = c.args.format.now in
    let head = c.split_at.result.0.now in
    let body = c.split_at.result.1.now in
    let is : c.args.bytes.now ≡ head ++ body = parts_of _ c.args.bytes.now head body c.split_at.ensures.front c.split_at.ensures.back in
    let whole : length head ≡ head_bytes f = omega arith in
    rw (p.1, c.in-Head.is) (λ more.
    ap (λ z. resume f c.args.w c.args.h stages.Head (z ++ more)) is
    ∙ ap (resume f c.args.w c.args.h stages.Head) (append_assoc head body more)
    ∙ head_whole f c.args.w c.args.h head (body ++ more) whole
    ∙ ap (λ n. judged (subrectangles_at f c.args.w c.args.h n (body ++ more))) (sym c.read_count.ensures)
    ∙ c.in_err-parts-in-Head.ensures.refused more)

pub returns-in_ok-parts-in-Head-clause-goes : goal.returns-in_ok-parts-in-Head-clause-goes
returns-in_ok-parts-in-Head-clause-goes c = λ more.
    let f = c.args.format.now in
    let head = c.split_at.result.0.now in
    let body = c.split_at.result.1.now in
    let n = c.in_ok-parts-in-Head.parts.taken in
    let is : c.args.bytes.now ≡ head ++ body = parts_of _ c.args.bytes.now head body c.split_at.ensures.front c.split_at.ensures.back in
    let whole : length head ≡ head_bytes f = omega arith in
    rw c.in-Head.is
    (ap (λ z. resume f c.args.w c.args.h stages.Head (z ++ more)) (taken_after c.args.bytes.now head body (4 + c.bytes-head.result) n is c.split_at.ensures.front_len)
    ∙ ap (resume f c.args.w c.args.h stages.Head) (append_assoc head (take n body) more)
    ∙ head_whole f c.args.w c.args.h head (take n body ++ more) whole
    ∙ ap (λ k. judged (subrectangles_at f c.args.w c.args.h k (take n body ++ more))) (sym c.read_count.ensures)
    ∙ c.in_ok-parts-in-Head.ensures.goes more)

pub returns-in-Subrectangle-clause-goes : goal.returns-in-Subrectangle-clause-goes
unfolding resume
returns-in-Subrectangle-clause-goes c = rw (c.in-Subrectangle.is, ← add-one) c.judge_parts-in-Subrectangle.ensures.goes

pub returns-in-Subrectangle-clause-refused : goal.returns-in-Subrectangle-clause-refused
unfolding resume
returns-in-Subrectangle-clause-refused c = rw (c.in-Subrectangle.is, ← add-one) c.judge_parts-in-Subrectangle.ensures.refused
