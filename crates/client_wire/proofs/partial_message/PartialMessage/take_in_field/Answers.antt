use Rattle.std.proofs.Common.{arith}
use Rattle.std.proofs.lemmas.Grind.{common_steps}
use Rattle.std.proofs.lemmas.Result.{err_from_is_err_and}
use Rattle.client_wire.proofs.Turns.{turn_faults}
use Rattle.client_wire.proofs.partial_message.PartialMessage.take_in_field.Goals as goal

pub returns-in_err-advance-clause-faults : goal.returns-in_err-advance-clause-faults
returns-in_err-advance-clause-faults c =
    let p = err_from_is_err_and c.from_residual-in_err-advance.result c.from_residual-in_err-advance.ensures.1 in
    let s = c.args.self.now in
    rw (p.1, p.2) (turn_faults c.min-taken.result s.bytes.items c.args.piece.now c.append_come.new.bytes.items c.in_err-advance.field-0.0
    c.in_ok-append_come.ensures.ok c.in_err-advance.ensures.faults)

pub advance-requires-clause-linked : goal.advance-requires-clause-linked
advance-requires-clause-linked c = grind (arith, common_steps)

pub returns-in_ok-advance-clause-takes : goal.returns-in_ok-advance-clause-takes
returns-in_ok-advance-clause-takes c = grind (arith, common_steps)

pub returns-else-len-end-clause-at : goal.returns-else-len-end-clause-at
returns-else-len-end-clause-at c = grind (arith, common_steps)

pub returns-else-len-end-clause-takes : goal.returns-else-len-end-clause-takes
returns-else-len-end-clause-takes c = grind (arith, common_steps)
