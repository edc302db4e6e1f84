use Rattle.std.proofs.Common.{◌≡◌, ◌+◌, ◌-◌, ℕ, List, length, drop, take, length-drop, inl, inr, Option, Result, Ok, sym, ap, ◌∙◌, arith}
use Rattle.std.proofs.lemmas.List.{take_all}
use Rattle.std.proofs.lemmas.Result.{err_from_is_err_and}
use Rattle.pixel_format.specs.Format.{Format, host_format}
use Rattle.terms.specs.Reading.{Got, Bad, field}
use Rattle.terms.specs.declared.area.Area.{Area}
use Rattle.terms.specs.declared.wire_fault.WireFault.{WireFault}
use Rattle.rect_data.specs.declared.encoding.Encoding.{Encoding}
use Rattle.rect_data.specs.Grammar.{data_at, measured}
use Rattle.rfb_wire.specs.Grammar.{area_of, rectangle_at}
use Rattle.rfb_wire.specs.Header.{Names}
use Rattle.client_wire.proofs.Fronts.{unless_memory}
use Rattle.rfb_wire.proofs.FromFront.{header_short, outside, unknown, rectangle_measured, rectangle_by}
use Rattle.rfb_wire.proofs.plain.rectangle.Goals as goal

pub returns-in_default-clause-says : goal.returns-in_default-clause-says
returns-in_default-clause-says c = header_short c.args.size.width c.args.size.height c.args.at c.args.bytes.now c.in_default.ensures.reads

pub returns-in_err-area-clause-says : goal.returns-in_err-area-clause-says
returns-in_err-area-clause-says c =
    let p = err_from_is_err_and c.from_residual.result c.from_residual.ensures.1 in
    let header = c.in-Some.header.now in
    let rest = c.in-Some.rest.now in
    rw (p.1, p.2) (unless_memory _ _ (elim c.in_err-area.ensures.faults [
      | inl out ↦ outside c.args.size.width c.args.size.height c.args.at c.args.bytes.now header rest c.in-Some.ensures.reads out.0 ∙ ap (λ f. Bad f) (sym out.1)
      | inr other ↦ unknown c.args.size.width c.args.size.height c.args.at c.args.bytes.now header rest c.in-Some.ensures.reads other.0 other.1 ∙ ap (λ f. Bad f) (sym other.2)
    ]))

-- what is measured of the data is what the rectangle is
of_length : (width height at : ℕ) (bytes header rest : List ℕ) (area : Area) (encoding : Encoding) (f : Format) (m : Result (Option ℕ) WireFault)
    → field {E = WireFault} 12 bytes ≡ Got header rest → Names width height header area encoding → f ≡ host_format
    → m ≡ measured (length rest) (data_at f width height encoding area rest)
    → rectangle_at width height at bytes ≡ rectangle_by area encoding (at + 12) m rest
of_length width height at bytes header rest area encoding f m reads names host m_is =
    let by : m ≡ measured (length rest) (data_at host_format width height encoding (area_of header) rest) =
    m_is ∙ ap (λ g. measured (length rest) (data_at g width height encoding area rest)) host
    ∙ ap (λ a. measured (length rest) (data_at host_format width height encoding a rest)) names.area_is in
    rectangle_measured width height at bytes header rest encoding m reads names.inside names.encoding_is by
    ∙ ap (λ a. rectangle_by a encoding (at + 12) m rest) (sym names.area_is)

pub returns-in-Ok-None-clause-says : goal.returns-in-Ok-None-clause-says
returns-in-Ok-None-clause-says c =
    of_length c.args.size.width c.args.size.height c.args.at c.args.bytes.now c.in-Some.header.now c.in-Some.rest.now c.in_ok-area.area c.in_ok-area.encoding
    c.host.result c.measure.result c.in-Some.ensures.reads c.in_ok-area.ensures.ok c.host.ensures c.measure.ensures.value
    ∙ ap (λ m. rectangle_by c.in_ok-area.area c.in_ok-area.encoding (c.args.at + 12) m c.in-Some.rest.now) (c.in-Ok-None.is ∙ ap (λ o. Ok o) c.in-Ok-None.field-0-is)

pub returns-in-Err-clause-says : goal.returns-in-Err-clause-says
returns-in-Err-clause-says c =
    unless_memory c.in-Err.fault (rectangle_at c.args.size.width c.args.size.height c.args.at c.args.bytes.now ≡ Bad c.in-Err.fault)
    (of_length c.args.size.width c.args.size.height c.args.at c.args.bytes.now c.in-Some.header.now c.in-Some.rest.now c.in_ok-area.area c.in_ok-area.encoding
    c.host.result c.measure.result c.in-Some.ensures.reads c.in_ok-area.ensures.ok c.host.ensures c.measure.ensures.value
    ∙ ap (λ m. rectangle_by c.in_ok-area.area c.in_ok-area.encoding (c.args.at + 12) m c.in-Some.rest.now) c.in-Err.is)

pub returns-clause-says : goal.returns-clause-says
returns-clause-says c =
    let n = c.in-Ok-Some.length in
    let rest = c.in-Some.rest.now in
    let all : take (length rest - n) (drop n rest) ≡ drop n rest = take_all (length rest - n) (drop n rest) (rw (length-drop) (omega arith)) in
    rw all
    (of_length c.args.size.width c.args.size.height c.args.at c.args.bytes.now c.in-Some.header.now c.in-Some.rest.now c.in_ok-area.area c.in_ok-area.encoding
    c.host.result c.measure.result c.in-Some.ensures.reads c.in_ok-area.ensures.ok c.host.ensures c.measure.ensures.value
    ∙ ap (λ m. rectangle_by c.in_ok-area.area c.in_ok-area.encoding (c.args.at + 12) m c.in-Some.rest.now) (c.in-Ok-Some.is ∙ ap (λ o. Ok o) c.in-Ok-Some.field-0-is))
