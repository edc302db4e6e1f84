use Rattle.std.proofs.Common.{rules, ◌≡◌, ◌-◌, List, length, Some, slice_get, ap, sym, ◌∙◌}
use Rattle.timeline.specs.declared.stretch.Stretch.{Stretch}
use Rattle.timeline.proofs.Told.{last_joined}
use Rattle.timeline.proofs.stretch.join.Goals as goal

pub returns-clause-joined : goal.returns-clause-joined
returns-clause-joined c = λ _.
    let old : List Stretch = c.args.stretches.now.items in
    let is : slice_get old (length old - 1) ≡ Some c.in-Some.field-0.now
    = ap (λ (z : List Stretch). slice_get z (length z - 1)) (sym c.deref.ensures.value) ∙ sym c.in-Some.ensures.value in
    last_joined c.args.every old c.len-end.result c.args.block c.in-Some.field-0.now c.saturating_add.result
    (c.len-end.ensures ∙ c.args.stretches.now.ok.0) is (search rules) c.saturating_add.ensures
