use Rattle.std.proofs.Common.{◌<◌, ◌∙◌, None, length, sym, arith}
use Rattle.std.proofs.lemmas.List.{get_or_default}
use Rattle.painter.proofs.Kept.{one_kept}
use Rattle.painter.proofs.WholeRows.{rows_more}
use Rattle.painter.proofs.shared_rows.keep_rows.Goals as goal

pub keep-requires : goal.keep-requires
keep-requires c = λ row is.
    let l = c.loop-y in
    let fits : l.y < length l.kept = omega arith in
    l.invariant.kept.each l.y row (sym (get_or_default l.kept l.y c.index-kept-y.result None fits) ∙ is) ∙ sym c.whole_row.ensures

pub loop-y-preserved : goal.loop-y-preserved
loop-y-preserved c =
    let l = c.loop-y in
    let fits : l.y < length l.kept = omega arith in
    record {
      kept = one_kept c.args.sheet.now l.kept l.y c.keep.new.kept fits (λ row is. c.keep.ensures.kept row is ∙ c.whole_row.ensures) l.invariant.kept;
      rows = c.in_ok-push.ensures.items ∙ rows_more c.args.sheet.now l.y l.rows.items c.in_ok-row.row l.invariant.rows (c.in_ok-row.ensures.ok ∙ c.whole_row.ensures);
    }

pub returns-in_err-row-clause-kept : goal.returns-in_err-row-clause-kept
returns-in_err-row-clause-kept c =
    let l = c.loop-y in
    let fits : l.y < length l.kept = omega arith in
    one_kept c.args.sheet.now l.kept l.y c.keep.new.kept fits (λ row is. c.keep.ensures.kept row is ∙ c.whole_row.ensures) l.invariant.kept

pub returns-in_err-push-clause-kept : goal.returns-in_err-push-clause-kept
returns-in_err-push-clause-kept c =
    let l = c.loop-y in
    let fits : l.y < length l.kept = omega arith in
    one_kept c.args.sheet.now l.kept l.y c.keep.new.kept fits (λ row is. c.keep.ensures.kept row is ∙ c.whole_row.ensures) l.invariant.kept
