use Rattle.std.proofs.Common.{◌≡◌, true, false, rules, refl, ◌∙◌}
use Rattle.std.specs.Str.{bytes_eq}
use Rattle.host_session.specs.Handshake.{version}
use Rattle.host_session.proofs.Goes.{version_goes, resume_count}
use Rattle.host_session.proofs.stage.after_version.Goals as goal

pub returns-then-ne-clause-faults : goal.returns-then-ne-clause-faults
returns-then-ne-clause-faults c = λ expected more.
    let e : bytes_eq c.args.field.now version ≡ false = search rules in
    version_goes expected c.args.field.now more false c.requires e

pub returns-clause-goes : goal.returns-clause-goes
returns-clause-goes c = λ expected more.
    let e : bytes_eq c.args.field.now version ≡ true = search rules in
    rw c.answered.ensures (version_goes expected c.args.field.now more true c.requires e ∙ rw (resume_count expected more) refl)
