use Rattle.std.proofs.Common.{◌≡◌, ◌<◌, true, false, inl, inr, refl, sym, ◌∙◌, ap, None}
use Rattle.std.proofs.lemmas.Int.{of_z-to_z}
use Rattle.terms.specs.Number.{signed}
use Rattle.terms.specs.declared.wire_fault.WireFault.TheVariants as faults
use Rattle.rect_data.specs.Grammar.{encoding_of, is_inside}
use Rattle.rfb_wire.specs.Grammar.{area_of, encoding_number}
use Rattle.rfb_wire.proofs.step.judge_header.Goals as goal

pub returns-then-not-lies_inside-clause-faults : goal.returns-then-not-lies_inside-clause-faults
unfolding area_of
returns-then-not-lies_inside-clause-faults c =
    let area : c.read-area.result ≡ area_of c.args.header.now = c.read-area.ensures in
    let outside : is_inside c.args.size.width c.args.size.height (area_of c.args.header.now) ≡ false = cc in
    inl (outside, refl)

pub returns-in_default-clause-faults : goal.returns-in_default-clause-faults
unfolding area_of
returns-in_default-clause-faults c =
    let area : c.read-area.result ≡ area_of c.args.header.now = c.read-area.ensures in
    let inside : is_inside c.args.size.width c.args.size.height (area_of c.args.header.now) ≡ true = cc in
    let unknown : encoding_of (encoding_number c.args.header.now) ≡ None =
    ap encoding_of (sym c.encoding_at-number.ensures) ∙ sym c.from_number.ensures ∙ c.in_default.is in
    let fits : c.encoding_at-number.result < 4294967296 = c.encoding_at-number.type_inv in
    rw (c.cast_signed.ensures, of_z-to_z)
    (inr (inside, unknown, ap (λ n. faults.Encoding (signed n)) c.encoding_at-number.ensures))

pub returns-clause-ok : goal.returns-clause-ok
unfolding area_of
returns-clause-ok c =
    let area : c.read-area.result ≡ area_of c.args.header.now = c.read-area.ensures in
    let inside : is_inside c.args.size.width c.args.size.height (area_of c.args.header.now) ≡ true = cc in
    record {
      area_is = area;
      inside = inside;
      encoding_is = ap encoding_of (sym c.encoding_at-number.ensures) ∙ sym c.from_number.ensures ∙ c.in-Some.is;
    }
