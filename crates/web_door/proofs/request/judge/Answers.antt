use Rattle.std.proofs.Common.{List, ℕ, subst}
use Rattle.web_door.specs.Doors.{IsJudgedBy}
use Rattle.web_door.proofs.request.judge.Goals as goal

pub returns : goal.returns
returns c = subst (λ (front : List ℕ). IsJudgedBy c.args.names.now front c.judge_front.result) c.front.ensures.front c.judge_front.ensures
