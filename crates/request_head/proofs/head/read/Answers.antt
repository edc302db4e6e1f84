use Rattle.std.proofs.Common.{inl, ap, Err}
use Rattle.request_head.proofs.Whole.{refused}
use Rattle.request_head.proofs.head.read.Goals as goal

pub returns-in-Ok-Partial : goal.returns-in-Ok-Partial
returns-in-Ok-Partial c = c.judge_beginning.ensures c.args.names.now c.parse_request.new.headers

pub returns-in-Err : goal.returns-in-Err
returns-in-Err c = inl (refused c.args.bytes.now _ c.in-Err.field-0 c.requires.length c.requires.room c.in-Err.ensures.invalid (λ is. c.in-Err.ensures.too_many (ap (λ e. Err e) is)))
