use Rattle.web_target.specs.Targets.{IsWindowOf}
use Rattle.web_target.proofs.Splits.{after_from}
use Rattle.web_target.proofs.target.survey.Goals as goal

pub returns-in_err-decimal_number : goal.returns-in_err-decimal_number
returns-in_err-decimal_number c = rw c.from_residual.ensures (λ s h.
    let of = c.digits_first.ensures in
    let first = after_from s c.args.query.now c.digits_first.result.0.now c.digits_first.result.1.now of.whole of.digits of.rest h in
    absurd (cc (first.0, h.is_from, c.in_err-decimal_number.ensures)))

pub returns-in_err-window : goal.returns-in_err-window
returns-in_err-window c = rw c.from_residual-in_err-window.ensures (λ s h.
    let of = c.digits_first.ensures in
    let first = after_from s c.args.query.now c.digits_first.result.0.now c.digits_first.result.1.now of.whole of.digits of.rest h in
    let window : IsWindowOf s.every c.digits_first.result.1.now = rw first.1 h.window in
    c.in_err-window.ensures s.every window)
