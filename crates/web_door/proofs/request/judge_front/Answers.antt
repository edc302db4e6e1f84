use Rattle.web_door.proofs.Whole.{of_request, of_fault}
use Rattle.web_door.proofs.request.judge_front.Goals as goal

pub returns-in-Taken : goal.returns-in-Taken
returns-in-Taken c =
    let get = c.in-Taken.ensures.is in
    of_request c.args.names.now c.args.front.now c.read_head.new.fields c.in-Taken.request get.0 get.1 c.judge_request.result c.judge_request.ensures

pub returns-in-Refused : goal.returns-in-Refused
returns-in-Refused c = of_fault c.args.names.now c.args.front.now c.in-Refused.fault c.in-Refused.ensures.is
