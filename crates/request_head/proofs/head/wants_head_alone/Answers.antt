use Rattle.std.proofs.Common.{◌∙◌, sym}
use Rattle.request_head.proofs.Methods.{head_is}
use Rattle.request_head.proofs.head.wants_head_alone.Goals as goal

pub returns-clause-method : goal.returns-clause-method
returns-clause-method c = λ head rest reads.
    let is = head_is c.args.bytes.now head rest reads in (
      (λ t. is.0 (sym c.begins_with_head.ensures ∙ t)),
      (λ m. c.begins_with_head.ensures ∙ is.1 m),
    )
