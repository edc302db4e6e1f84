use Rattle.std.proofs.Common.{◌≡◌, ◌≤◌, ◌∙◌, ◌+◌, ◌++◌, length, take, ap, subst}
use Rattle.std.proofs.lemmas.List.{length-take-le}
use Rattle.pixel_format.specs.Format.{Format, host_format}
use Rattle.terms.specs.Reading.{Bad}
use Rattle.rect_data.specs.Judging.{wants_of, resume, go_on as data_go_on}
use Rattle.std.specs.Prelude.{◌<◌, IfSome}
use Rattle.rfb_wire.specs.PartialMessage.{after_data}
use Rattle.rfb_wire.proofs.Resume.{data_whole, has_bytes}
use Rattle.rfb_wire.proofs.step.run.Goals as goal

pub next_data-next-requires : goal.next_data-next-requires
next_data-next-requires c =
    has_bytes c.in-Ok.fields.taken (length c.args.bytes.now) c.in-Ok.fields.next c.in-Ok.ensures.taken
    (subst (λ (f : Format). IfSome c.in-Ok.fields.next (λ next. length c.args.bytes.now < c.in-Ok.fields.taken + wants_of f next)) c.host.ensures c.in-Ok.ensures.waits)

pub returns-in-Ok-clause-goes : goal.returns-in-Ok-clause-goes
returns-in-Ok-clause-goes c = λ more.
    let front = take c.in-Ok.fields.taken c.args.bytes.now in
    data_whole c.args.size.width c.args.size.height c.args.at c.args.others c.args.begun c.args.current front more
    (data_go_on host_format c.args.size.width c.args.size.height c.in-Ok.fields.next more)
    (subst (λ (f : Format). resume f c.args.size.width c.args.size.height c.args.current (front ++ more) ≡ data_go_on f c.args.size.width c.args.size.height c.in-Ok.fields.next more)
    c.host.ensures (c.in-Ok.ensures.goes more))
    ∙ ap (λ n. after_data c.args.size.width c.args.size.height c.args.begun c.args.others ((c.args.at + n) + length more) (data_go_on host_format c.args.size.width c.args.size.height c.in-Ok.fields.next more))
    (length-take-le c.in-Ok.fields.taken c.args.bytes.now c.in-Ok.ensures.taken)
    ∙ c.next_data-next.ensures.goes c.args.size.width c.args.size.height more

pub returns-in-Ok-clause-first : goal.returns-in-Ok-clause-first
returns-in-Ok-clause-first c =
    subst (λ (f : Format). wants_of f c.args.current ≤ length c.args.bytes.now → wants_of f c.args.current ≤ c.in-Ok.fields.taken) c.host.ensures c.in-Ok.ensures.first

pub returns-in-Err-clause-faults : goal.returns-in-Err-clause-faults
returns-in-Err-clause-faults c = λ more.
    data_whole c.args.size.width c.args.size.height c.args.at c.args.others c.args.begun c.args.current c.args.bytes.now more
    (Bad c.in-Err.fault)
    (subst (λ (f : Format). resume f c.args.size.width c.args.size.height c.args.current (c.args.bytes.now ++ more) ≡ Bad c.in-Err.fault) c.host.ensures (c.in-Err.ensures.refused more))
