use Rattle.web_target.proofs.Splits.{no_beginning, no_survey}
use Rattle.web_target.proofs.target.asked_by.Goals as goal

pub returns-in_err-beginning : goal.returns-in_err-beginning
returns-in_err-beginning c = rw c.from_residual-in_err-beginning.ensures (no_beginning c.args.target.now c.in_ok-query.query.now c.in_ok-query.ensures c.in_err-beginning.ensures)

pub returns-in_err-survey : goal.returns-in_err-survey
returns-in_err-survey c = rw c.from_residual.ensures (no_survey c.args.target.now c.in-Some.query.now c.in-Some.ensures c.in_err-survey.ensures)
