use Rattle.std.proofs.Common.{◌+◌, [], ◌∷◌, length, sym, ap, ◌∙◌}
use Rattle.pixel_format.specs.Format.{host_format}
use Rattle.rect_data.specs.Judging.{go_on as data_go_on}
use Rattle.rfb_wire.specs.declared.partial_message.Stage.TheVariants as stages
use Rattle.rfb_wire.specs.PartialMessage.{following, ended, after_data, resume, go_on}
use Rattle.rfb_wire.proofs.Resume.{data_end, after_nil}
use Rattle.rfb_wire.proofs.step.next_data.Goals as goal

pub returns-in_default-clause-goes : goal.returns-in_default-clause-goes
unfolding data_go_on
returns-in_default-clause-goes c = λ width height more.
    ap (λ n. after_data width height c.args.begun c.args.others (c.args.at + length more) (data_go_on host_format width height n more)) c.in_default.is
    ∙ data_end width height c.args.at c.args.others c.args.begun more
    ∙ ap (following (ended c.args.begun c.args.at ∷ [])) (sym (c.next_header.ensures.goes width height more))

pub returns-clause-goes : goal.returns-clause-goes
unfolding data_go_on resume go_on
returns-clause-goes c = λ width height more.
    ap (λ n. after_data width height c.args.begun c.args.others (c.args.at + length more) (data_go_on host_format width height n more)) c.in-Some.is
    ∙ sym (after_nil (resume width height (stages.Data c.args.at c.args.begun c.in-Some.next c.args.others) more))
