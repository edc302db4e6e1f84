use Rattle.std.proofs.Common.{◌≡◌, ℕ, false, rules, nat_eq, refl, sym, ◌∙◌}
use Rattle.std.proofs.lemmas.Bool.{ne_eqb}
use Rattle.terms.specs.Number.{u32_at}
use Rattle.host_session.proofs.Goes.{outcome_goes, resume_length, resume_size}
use Rattle.host_session.proofs.stage.after_outcome.Goals as goal

pub returns-then-read_u32-ne0-clause-goes : goal.returns-then-read_u32-ne0-clause-goes
returns-then-read_u32-ne0-clause-goes c = λ expected more.
    let n : ℕ = c.read_u32.result in
    let e : nat_eq n 0 ≡ false = ne_eqb n 0 c.if-read_u32-ne0.true in
    rw c.next.ensures (outcome_goes expected c.args.field.now more n c.requires (sym c.read_u32.ensures) ∙ rw e (sym (resume_length expected more)))

pub returns-clause-goes : goal.returns-clause-goes
returns-clause-goes c = λ expected more.
    let is : u32_at c.args.field.now 0 ≡ 0 = search rules in
    rw c.answered.ensures (outcome_goes expected c.args.field.now more 0 c.requires is ∙ rw (resume_size expected more) refl)
