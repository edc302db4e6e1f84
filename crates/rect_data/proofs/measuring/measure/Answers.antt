use Rattle.std.proofs.Common.{length, Ok, ap, ◌∙◌}
use Rattle.terms.specs.declared.wire_fault.WireFault.TheVariants as faults
use Rattle.rre.specs.Grammar as rre
use Rattle.hextile.specs.Grammar as hextile
use Rattle.rect_data.specs.declared.encoding.Encoding.TheVariants as encodings
use Rattle.rect_data.specs.Grammar.{data_at, length_as}
use Rattle.rect_data.proofs.Content.{if_measured}
use Rattle.rect_data.proofs.Steps.{length_judged}
use Rattle.rect_data.proofs.measuring.measure.Goals as goal

pub returns-in-Raw-clause-value : goal.returns-in-Raw-clause-value
unfolding data_at
returns-in-Raw-clause-value c = rw c.in-Raw.is c.measure_raw.ensures

pub returns-in-CopyRect-clause-value : goal.returns-in-CopyRect-clause-value
unfolding data_at
returns-in-CopyRect-clause-value c = rw c.in-CopyRect.is c.measure_copy.ensures

pub returns-in-Rre-clause-value : goal.returns-in-Rre-clause-value
unfolding data_at
returns-in-Rre-clause-value c =
    let f = c.args.format.now in
    let bytes = c.args.bytes.now in
    rw c.in-Rre.is (c.refused_by.ensures ∙ ap (length_as faults.BadRre) c.measure-length.ensures.value
    ∙ length_judged faults.BadRre (length bytes) (rre.data_at f c.args.area.w c.args.area.h bytes))

pub returns-in-Hextile-clause-value : goal.returns-in-Hextile-clause-value
unfolding data_at
returns-in-Hextile-clause-value c =
    let f = c.args.format.now in
    let bytes = c.args.bytes.now in
    rw c.in-Hextile.is (c.refused_by-in-Hextile.ensures ∙ ap (length_as faults.BadHextile) c.measure-length-in-Hextile.ensures.value
    ∙ length_judged faults.BadHextile (length bytes) (hextile.data_at f c.args.area.w c.args.area.h bytes))

pub returns-in-Raw-clause-whole : goal.returns-in-Raw-clause-whole
unfolding data_at
returns-in-Raw-clause-whole c =
    rw c.in-Raw.is (if_measured c.args.format.now c.args.size.width c.args.size.height encodings.Raw c.args.area c.args.bytes.now (Ok c.measure_raw.result) c.measure_raw.ensures)

pub returns-in-CopyRect-clause-whole : goal.returns-in-CopyRect-clause-whole
unfolding data_at
returns-in-CopyRect-clause-whole c =
    rw c.in-CopyRect.is (if_measured c.args.format.now c.args.size.width c.args.size.height encodings.CopyRect c.args.area c.args.bytes.now (c.measure_copy.result) c.measure_copy.ensures)

pub returns-in-Rre-clause-whole : goal.returns-in-Rre-clause-whole
unfolding data_at
returns-in-Rre-clause-whole c =
    let f = c.args.format.now in
    let bytes = c.args.bytes.now in
    rw c.in-Rre.is (if_measured f c.args.size.width c.args.size.height encodings.Rre c.args.area bytes c.refused_by.result
    (c.refused_by.ensures ∙ ap (length_as faults.BadRre) c.measure-length.ensures.value
    ∙ length_judged faults.BadRre (length bytes) (rre.data_at f c.args.area.w c.args.area.h bytes)))

pub returns-in-Hextile-clause-whole : goal.returns-in-Hextile-clause-whole
unfolding data_at
returns-in-Hextile-clause-whole c =
    let f = c.args.format.now in
    let bytes = c.args.bytes.now in
    rw c.in-Hextile.is (if_measured f c.args.size.width c.args.size.height encodings.Hextile c.args.area bytes c.refused_by-in-Hextile.result
    (c.refused_by-in-Hextile.ensures ∙ ap (length_as faults.BadHextile) c.measure-length-in-Hextile.ensures.value
    ∙ length_judged faults.BadHextile (length bytes) (hextile.data_at f c.args.area.w c.args.area.h bytes)))
