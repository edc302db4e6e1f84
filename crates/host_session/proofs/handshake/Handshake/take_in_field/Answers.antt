use Rattle.std.proofs.Common.{sym, [], arith}
use Rattle.std.proofs.lemmas.Grind.{common_steps}
use Rattle.std.proofs.lemmas.List.{append-nil}
use Rattle.std.proofs.lemmas.Result.{err_from_is_err_and}
use Rattle.host_session.proofs.Turns.{unless_memory, field_fails}
use Rattle.host_session.proofs.handshake.Handshake.take_in_field.Goals as goal

pub returns-in_err-step-clause-faults : goal.returns-in_err-step-clause-faults
returns-in_err-step-clause-faults c =
    let p = err_from_is_err_and c.from_residual-in_err-step.result c.from_residual-in_err-step.ensures.1 in
    let s = c.args.self.now in
    let f = c.in_err-step.field-0.0 in
    rw (p.1, p.2) (record {
      fault = unless_memory f _ (record {
        said = [];
        due = sym (append-nil c.args.due.now.items);
        is = field_fails c.args.expected s.position c.args.stage s.kept.items c.args.piece.now c.deref.result.now c.extend_from_slice.new.self.items c.min-taken.result f
            c.requires.position c.in_ok-extend_from_slice.ensures.items c.deref.ensures.value c.in_err-step.ensures.faults;
      });
    })

pub returns-then-len-wants-clause-taking : goal.returns-then-len-wants-clause-taking
returns-then-len-wants-clause-taking c = grind (arith, common_steps)

pub returns-clause-taking : goal.returns-clause-taking
returns-clause-taking c = grind (arith, common_steps)
