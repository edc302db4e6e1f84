use Rattle.std.proofs.Common.{◌≡◌, rules, sym, ◌∙◌, ap}
use Rattle.terms.specs.Number.{u16_at}
use Rattle.rfb_wire.specs.PartialMessage.{go_on, others_at}
use Rattle.rfb_wire.proofs.Resume.{head_of_update, after_nil}
use Rattle.rfb_wire.proofs.step.after_update_head.Goals as goal

pub returns-clause-goes : goal.returns-clause-goes
returns-clause-goes c = λ width height more.
    let count : u16_at c.args.field.now 1 ≡ c.read_u16.result = search rules in
    head_of_update width height c.args.field.now more c.requires
    ∙ ap (λ n. others_at width height n 4 more) count
    ∙ sym (c.next_header.ensures.goes width height more)
    ∙ sym (after_nil (go_on width height c.next_header.result more))
