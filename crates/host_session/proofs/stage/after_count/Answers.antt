use Rattle.std.proofs.Common.{◌≡◌, ℕ, false, slice_index, nat_eq, refl, sym, ◌∙◌}
use Rattle.std.proofs.lemmas.Bool.{ne_eqb}
use Rattle.host_session.proofs.Goes.{count_goes, resume_types, resume_length}
use Rattle.host_session.proofs.stage.after_count.Goals as goal

pub returns-then-field-eq0-clause-goes : goal.returns-then-field-eq0-clause-goes
returns-then-field-eq0-clause-goes c = λ expected more.
    rw c.next.ensures (count_goes expected c.args.field.now more 0 c.requires c.if-field-eq0.true ∙ sym (resume_length expected more))

pub returns-clause-goes : goal.returns-clause-goes
returns-clause-goes c = λ expected more.
    let n : ℕ = slice_index c.args.field.now 0 in
    let e : nat_eq n 0 ≡ false = ne_eqb n 0 c.if-field-eq0.false in
    rw c.next-2.ensures (count_goes expected c.args.field.now more n c.requires refl ∙ rw e (sym (resume_types expected n more)))
