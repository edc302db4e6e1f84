use Rattle.std.proofs.Common.{length, None, sym, arith}
use Rattle.std.proofs.lemmas.Result.{err_from_is_err_and}
use Rattle.terms.proofs.Measured.{judged_whole, judged_bad, fields_measured}
use Rattle.hextile.specs.Grammar.{Refused, data_at}
use Rattle.hextile.specs.Measuring.{go_on}
use Rattle.hextile.proofs.Steps.{all_is, all_waits, all_refused}
use Rattle.hextile.proofs.measuring.measure_by_fields.Goals as goal

pub returns-in_default : goal.returns-in_default
unfolding go_on
returns-in_default c =
    let f = c.args.format.now in
    let bytes = c.args.bytes.now in
    let starts = rw c.in_default.is at (c.start.ensures f bytes) in
    judged_whole 0 bytes (data_at f c.args.w c.args.h bytes) (omega arith) (sym starts)

pub returns-in_err-fields : goal.returns-in_err-fields
unfolding go_on
returns-in_err-fields c =
    let p = err_from_is_err_and c.from_residual.result c.from_residual.ensures.1 in
    let f = c.args.format.now in
    let w = c.args.w in
    let h = c.args.h in
    let bytes = c.args.bytes.now in
    rw (p.1, p.2, c.in_err-fields.ensures.only) (judged_bad (length bytes) (data_at f w h bytes) Refused
    (all_refused f w h bytes c.in-Some.first (rw c.in-Some.is at (c.start.ensures f)) c.in_err-fields.ensures.refused))

pub returns : goal.returns
unfolding go_on
returns c =
    let f = c.args.format.now in
    let w = c.args.w in
    let h = c.args.h in
    let bytes = c.args.bytes.now in
    let n = c.in_ok-fields.fields.taken in
    let first = c.in-Some.first in
    let run = c.in_ok-fields.ensures in
    let starts = rw c.in-Some.is at (c.start.ensures f) in
    fields_measured n c.in_ok-fields.fields.next c.length.result bytes (data_at f w h bytes) c.length.ensures run.taken
    (λ none. all_is f w h n bytes first None starts (rw none at run.goes))
    (λ next some. all_waits f w h n bytes first next run.taken (rw some at run.waits) starts (rw some at run.goes))
