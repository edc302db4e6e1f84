use Rattle.std.proofs.Common.{◌≡◌, rules, ◌∙◌}
use Rattle.terms.specs.Number.{u32_at}
use Rattle.client_wire.proofs.Resume.{text_goes, no_text}
use Rattle.client_wire.proofs.step.after_text_head.Goals as goal

pub returns-then-length-eq0-clause-goes : goal.returns-then-length-eq0-clause-goes
returns-then-length-eq0-clause-goes c = λ more.
    let count : u32_at c.args.field.now 3 ≡ c.read_u32-length.result = search rules in
    text_goes c.args.field.now more 0 c.requires (count ∙ c.if-length-eq0.true) ∙ no_text more

pub returns-clause-goes : goal.returns-clause-goes
returns-clause-goes c = λ more.
    let count : u32_at c.args.field.now 3 ≡ c.read_u32-length.result = search rules in
    rw c.new-left.ensures (text_goes c.args.field.now more c.read_u32-length.result c.requires count)
