use Rattle.std.proofs.Common.{sym, ap, ◌∙◌, Err}
use Rattle.std.proofs.lemmas.Result.{err_from_is_err_and}
use Rattle.drill_script.proofs.Faults.{rest_fails, text_takes}
use Rattle.drill_script.proofs.reading.line.Goals as goal

pub returns-in_err-line-clause-read : goal.returns-in_err-line-clause-read
returns-in_err-line-clause-read c =
    let p = err_from_is_err_and c.from_residual-in_err-line.result c.from_residual-in_err-line.ensures.1 in
    rw (p.1, p.2, ← c.of-words.ensures)
    (rest_fails c.in_err-line.field-0.0 c.in_ok-kind.kind c.in_ok-word.field-0.now c.of-words.result c.word.new.self c.rest_of_line.new.words c.in_ok-word.ensures
    (sym c.kind_of.ensures ∙ c.in_ok-kind.ensures.ok_part) c.in_err-line.ensures.read)

pub returns-in_err-line-clause-memory : goal.returns-in_err-line-clause-memory
returns-in_err-line-clause-memory c = λ want.
    let p = err_from_is_err_and c.from_residual-in_err-line.result c.from_residual-in_err-line.ensures.1 in
    let at = rw c.of-words.ensures at c.in_ok-word.ensures in
    text_takes c.in_ok-kind.kind c.in_ok-word.field-0.now c.args.text.now c.word.new.self at (sym c.kind_of.ensures ∙ c.in_ok-kind.ensures.ok_part)
    (c.in_err-line.ensures.memory (ap (λ e. Err e) (sym p.2) ∙ sym p.1 ∙ want))
