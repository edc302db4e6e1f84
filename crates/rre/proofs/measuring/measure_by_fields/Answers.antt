use Rattle.std.proofs.Common.{length, None}
use Rattle.std.proofs.lemmas.Result.{err_from_is_err_and}
use Rattle.terms.proofs.Measured.{judged_bad, fields_measured}
use Rattle.rre.specs.Grammar.{Outside, data_at}
use Rattle.rre.specs.Measuring.{go_on}
use Rattle.rre.proofs.Steps.{all_is, all_waits, all_refused}
use Rattle.rre.proofs.measuring.measure_by_fields.Goals as goal

pub returns-in_err-fields : goal.returns-in_err-fields
returns-in_err-fields c =
    let p = err_from_is_err_and c.from_residual.result c.from_residual.ensures.1 in
    let f = c.args.format.now in
    let w = c.args.w in
    let h = c.args.h in
    let bytes = c.args.bytes.now in
    rw (p.1, p.2, c.in_err-fields.ensures.only) (judged_bad (length bytes) (data_at f w h bytes) Outside (all_refused f w h bytes c.in_err-fields.ensures.refused))

pub returns : goal.returns
unfolding go_on
returns c =
    let f = c.args.format.now in
    let w = c.args.w in
    let h = c.args.h in
    let bytes = c.args.bytes.now in
    let n = c.in_ok-fields.fields.taken in
    let run = c.in_ok-fields.ensures in
    fields_measured n c.in_ok-fields.fields.next c.length.result bytes (data_at f w h bytes) c.length.ensures run.taken
    (λ none. all_is f w h n bytes None (rw none at run.goes))
    (λ next some. all_waits f w h n bytes next (rw some at run.waits) (rw some at run.goes))
