use Rattle.std.proofs.Common.{◌≡◌, ◌+◌, length, inl, inr, sym, subst, ◌∙◌, ap}
use Rattle.std.proofs.lemmas.Result.{err_from_is_err_and}
use Rattle.pixel_format.specs.Format.{Format, host_format}
use Rattle.terms.specs.Reading.{Bad}
use Rattle.rect_data.specs.Grammar.{data_at}
use Rattle.rect_data.specs.Judging.{go_on as data_go_on}
use Rattle.rfb_wire.specs.PartialMessage.{after_data}
use Rattle.rfb_wire.proofs.Resume.{header_outside, header_unknown, header_of_data, begun_at}
use Rattle.rfb_wire.proofs.step.after_header.Goals as goal

pub returns-in_err-area-clause-faults : goal.returns-in_err-area-clause-faults
returns-in_err-area-clause-faults c =
    let p = err_from_is_err_and c.from_residual.result c.from_residual.ensures.1 in
    let header = c.args.header.now in
    rw (p.1, p.2) (λ more. elim c.in_err-area.ensures.faults [
      | inl out ↦ header_outside c.args.size.width c.args.size.height c.args.at c.args.others header more c.requires.whole out.0 ∙ ap (λ f. Bad f) (sym out.1)
      | inr other ↦ header_unknown c.args.size.width c.args.size.height c.args.at c.args.others header more c.requires.whole other.0 other.1 ∙ ap (λ f. Bad f) (sym other.2)
    ])

pub returns-clause-goes : goal.returns-clause-goes
returns-clause-goes c = λ more.
    let width = c.args.size.width in
    let height = c.args.size.height in
    let area = c.in_ok-area.area in
    let encoding = c.in_ok-area.encoding in
    let names = c.in_ok-area.ensures.ok in
    let starts : data_go_on host_format width height c.start-next.result more ≡ data_at host_format width height encoding area more =
    subst (λ (f : Format). data_go_on f width height c.start-next.result more ≡ data_at f width height encoding area more)
    c.host.ensures (c.start-next.ensures.goes width height more) in
    header_of_data width height c.args.at c.args.others c.args.header.now more encoding c.requires.whole names.inside names.encoding_is
    ∙ ap (λ a. after_data width height (begun_at (c.args.at + 12) a encoding) c.args.others ((c.args.at + 12) + length more) (data_at host_format width height encoding a more))
    (sym names.area_is)
    ∙ ap (after_data width height (begun_at (c.args.at + 12) area encoding) c.args.others ((c.args.at + 12) + length more)) (sym starts)
    ∙ c.next_data.ensures.goes width height more
