use Rattle.std.proofs.Common.{◌≡◌, true, false, rules, refl, ◌∙◌}
use Rattle.host_session.specs.Handshake.{offers_security_none}
use Rattle.host_session.proofs.Goes.{types_go, resume_outcome}
use Rattle.host_session.proofs.stage.after_types.Goals as goal

pub returns-then-not-offers-clause-faults : goal.returns-then-not-offers-clause-faults
returns-then-not-offers-clause-faults c = λ expected more.
    let e : offers_security_none c.args.field.now ≡ false = search rules in
    types_go expected c.args.field.now more c.args.count false c.requires e

pub returns-clause-goes : goal.returns-clause-goes
returns-clause-goes c = λ expected more.
    let e : offers_security_none c.args.field.now ≡ true = search rules in
    rw c.answered.ensures (types_go expected c.args.field.now more c.args.count true c.requires e ∙ rw (resume_outcome expected more) refl)
