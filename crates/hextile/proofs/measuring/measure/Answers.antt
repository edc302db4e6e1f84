use Rattle.std.proofs.Common.{length, sym, ap, ◌∙◌}
use Rattle.terms.proofs.Measured.{if_measured, whole_is_measured}
use Rattle.hextile.specs.Grammar.{data_at}
use Rattle.hextile.specs.Data.{IsData}
use Rattle.terms.specs.Measuring.{measured}
use Rattle.hextile.proofs.TilesRead.{data_read, data_again}
use Rattle.hextile.proofs.Refused.{measured_is_refused, refused_again}
use Rattle.hextile.proofs.measuring.measure.Goals as goal

pub returns-clause-whole : goal.returns-clause-whole
returns-clause-whole c = λ front more is known.
    let read = data_at c.args.format.now c.args.w c.args.h in
    c.measure_by_fields.ensures ∙ whole_is_measured read c.args.bytes.now front more known.0 is
    (data_again c.args.format.now c.args.w c.args.h front more known.0 known.1)

pub returns-clause-bad : goal.returns-clause-bad
returns-clause-bad c = (
  λ e. measured_is_refused c.args.format.now c.args.w c.args.h c.args.bytes.now (sym c.measure_by_fields.ensures ∙ e),
  λ is. c.measure_by_fields.ensures ∙ ap (measured (length c.args.bytes.now)) (refused_again c.args.format.now c.args.w c.args.h c.args.bytes.now is),
)

pub returns-clause-ok : goal.returns-clause-ok
returns-clause-ok c =
    let f = c.args.format.now in
    let w = c.args.w in
    let h = c.args.h in
    if_measured (data_at f w h) (IsData f w h) (data_read f w h) c.args.bytes.now c.measure_by_fields.result c.measure_by_fields.ensures
