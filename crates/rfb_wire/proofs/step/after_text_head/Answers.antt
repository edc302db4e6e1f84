use Rattle.std.proofs.Common.{◌≡◌, rules, sym, ◌∙◌, ap}
use Rattle.std.specs.Prelude.{nat_lt, if◌then◌else◌}
use Rattle.terms.specs.Number.{u32_at}
use Rattle.rfb_wire.specs.Grammar.{read_over, text_data_at, text_limit}
use Rattle.rfb_wire.specs.PartialMessage.{go_on}
use Rattle.rfb_wire.proofs.Resume.{head_of_text, after_nil}
use Rattle.rfb_wire.proofs.step.after_text_head.Goals as goal

pub returns-clause-goes : goal.returns-clause-goes
returns-clause-goes c = λ width height more.
    let count : u32_at c.args.field.now 3 ≡ c.read_u32-count.result = search rules in
    head_of_text width height c.args.field.now more c.requires
    ∙ ap (λ n. if nat_lt text_limit n then read_over n more else text_data_at n more) count
    ∙ sym (c.next_text.ensures.goes width height more)
    ∙ sym (after_nil (go_on width height c.next_text.result more))
