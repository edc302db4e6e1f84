use Rattle.std.proofs.Common.{◌≡◌, ◌*◌, rules, sym, ◌∙◌, ap}
use Rattle.terms.specs.Number.{u16_at}
use Rattle.rfb_wire.specs.Grammar.{read_over}
use Rattle.rfb_wire.specs.PartialMessage.{go_on}
use Rattle.rfb_wire.proofs.Resume.{head_of_color_map, after_nil}
use Rattle.rfb_wire.proofs.step.after_color_map_head.Goals as goal

pub returns-clause-goes : goal.returns-clause-goes
unfolding go_on
returns-clause-goes c = λ width height more.
    let count : u16_at c.args.field.now 3 ≡ c.read_u16-count.result = search rules in
    head_of_color_map width height c.args.field.now more c.requires
    ∙ ap (λ n. read_over (6 * n) more) count
    ∙ sym (after_nil (read_over (6 * c.read_u16-count.result) more))
