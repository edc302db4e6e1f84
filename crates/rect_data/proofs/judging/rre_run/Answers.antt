use Rattle.std.proofs.Common.{◌∙◌, ap}
use Rattle.terms.specs.declared.wire_fault.WireFault.TheVariants as faults
use Rattle.rre.specs.Measuring.{go_on as data_goes_on}
use Rattle.rect_data.specs.Grammar.{judged_as}
use Rattle.rect_data.specs.Judging.{resume, go_on}
use Rattle.rect_data.proofs.judging.rre_run.Goals as goal

pub returns-in_default-clause-refused : goal.returns-in_default-clause-refused
unfolding resume
returns-in_default-clause-refused c = λ width height more. ap (judged_as faults.BadRre) (c.in_default.ensures.refused more)

pub returns-in_default-next-clause-goes : goal.returns-in_default-next-clause-goes
unfolding resume go_on data_goes_on
returns-in_default-next-clause-goes c = λ width height more.
    ap (judged_as faults.BadRre) (c.in-Ok.ensures.goes more ∙ ap (λ n. data_goes_on c.args.format.now c.args.w c.args.h n more) c.in_default-next.is)

pub returns-clause-goes : goal.returns-clause-goes
unfolding resume go_on data_goes_on
returns-clause-goes c = λ width height more.
    ap (judged_as faults.BadRre) (c.in-Ok.ensures.goes more ∙ ap (λ n. data_goes_on c.args.format.now c.args.w c.args.h n more) c.in-Some.is)
