use Rattle.std.proofs.Common.{◌≡◌, [], rules, ◌∙◌, sym, ap}
use Rattle.terms.specs.Reading.{Got}
use Rattle.terms.specs.Number.{u16_at}
use Rattle.client_wire.specs.declared.message.ClientMessage.TheVariants as messages
use Rattle.client_wire.specs.PartialMessage.{resume}
use Rattle.client_wire.proofs.Resume.{head_goes, no_encodings}
use Rattle.client_wire.proofs.step.after_encodings_head.Goals as goal

pub returns-then-count-eq0-clause-goes : goal.returns-then-count-eq0-clause-goes
returns-then-count-eq0-clause-goes c = λ more.
    let count : u16_at c.args.field.now 1 ≡ c.read_u16-count.result = search rules in
    let none : c.from_vec-none.result ≡ [] = c.from_vec-none.ensures ∙ c.new.ensures.items in
    head_goes c.args.field.now more 0 c.requires (count ∙ c.if-count-eq0.true) ∙ no_encodings more
    ∙ ap (λ n. Got (messages.SetEncodings n) more) (sym none)

pub returns-clause-goes : goal.returns-clause-goes
unfolding resume
returns-clause-goes c = λ more.
    let count : u16_at c.args.field.now 1 ≡ c.read_u16-count.result = search rules in
    head_goes c.args.field.now more c.read_u16-count.result c.requires count
