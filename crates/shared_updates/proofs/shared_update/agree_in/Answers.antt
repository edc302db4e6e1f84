use Rattle.std.proofs.Common.{◌≡◌, ◌<◌, ℕ, length, inl, inr, subst, get_or, arith}
use Rattle.std.proofs.lemmas.Bool.{cases_lt}
use Rattle.std.proofs.lemmas.List.{get_or_default}
use Rattle.terms.specs.declared.area.Area.{Area}
use Rattle.painter.specs.Framebuffer.{AgreeIn}
use Rattle.shared_updates.proofs.shared_update.agree_in.Goals as goal

pub loop-area-preserved : goal.loop-area-preserved
loop-area-preserved c = λ k d less.
    let areas = c.args.areas.now in
    let index = c.loop-area.area-index in
    let inside : index < length areas = omega (arith, c.loop-area-test.true, c.loop-area.auto.area-index-end) in
    let Agree : Area → Type 0 = λ area. AgreeIn area c.args.one.now c.args.other.now in
    let here : Agree (get_or areas index d) = subst Agree (get_or_default areas index _ d inside) (c.same_in.ensures.0 c.if-not-same_in.false) in
    elim (cases_lt k index) [
      | inl before ↦ c.loop-area.invariant k d before
      | inr level ↦
          let same : index ≡ k = omega (arith, level, less) in
          subst (λ (j : ℕ). Agree (get_or areas j d)) same here
    ]
