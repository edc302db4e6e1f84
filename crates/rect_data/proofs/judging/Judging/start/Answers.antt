use Rattle.std.proofs.Common.{◌≡◌, ◌*◌, ◌⊎◌, inl, inr, [], refl, sym, ap, ◌∙◌}
use Rattle.std.proofs.Math.Nat.{zero-mul, mul-zero}
use Rattle.pixel_format.specs.Format.{Format, pixel_bytes}
use Rattle.terms.specs.declared.area.Area.{Area}
use Rattle.terms.specs.declared.wire_fault.WireFault.TheVariants as faults
use Rattle.rre.specs.Grammar as rre
use Rattle.rre.specs.Measuring.{resume as rre_resume}
use Rattle.hextile.specs.Grammar as hextile
use Rattle.hextile.specs.Measuring.{go_on as hextile_goes_on}
use Rattle.rect_data.specs.Grammar.{judged_as, data_at}
use Rattle.rect_data.specs.Judging.{resume, go_on}
use Rattle.rect_data.proofs.Steps.{judged_again, pixels_whole, some_pixels, hextile_some}
use Rattle.rect_data.proofs.judging.Judging.start.Goals as goal

no_area : (f : Format) (area : Area) → (area.w ≡ 0) ⊎ ((area.w ≡ 0 → ⊥) × (area.h ≡ 0)) → 0 ≡ pixel_bytes f * (area.w * area.h)
no_area f area (inl e) = rw (e, zero-mul, mul-zero) refl
no_area f area (inr e) = rw (e.1, mul-zero, mul-zero) refl

pub returns-in-Raw-clause-goes : goal.returns-in-Raw-clause-goes
unfolding go_on data_at
returns-in-Raw-clause-goes c = λ width height more.
    rw c.in-Raw.is (sym (pixels_whole c.args.format.now c.args.area [] more (no_area c.args.format.now c.args.area c.if-area-eq0-2.either)))

pub returns-in-Raw-2-clause-goes : goal.returns-in-Raw-2-clause-goes
unfolding go_on resume data_at
returns-in-Raw-2-clause-goes c = λ width height more. rw c.in-Raw.is refl

pub returns-in-Raw-2-clause-some : goal.returns-in-Raw-2-clause-some
returns-in-Raw-2-clause-some c = λ some. some_pixels c.args.format.now c.args.area c.if-area-eq0-2.false.0 c.if-area-eq0-2.false.1 some

pub returns-in-CopyRect-clause-goes : goal.returns-in-CopyRect-clause-goes
unfolding go_on resume data_at
returns-in-CopyRect-clause-goes c = λ width height more. rw c.in-CopyRect.is refl

pub returns-in-Rre-clause-goes : goal.returns-in-Rre-clause-goes
unfolding go_on resume data_at rre_resume
returns-in-Rre-clause-goes c = λ width height more.
    rw c.in-Rre.is (judged_again faults.BadRre (rre.data_at c.args.format.now c.args.area.w c.args.area.h more))

-- the tiles, by the field with which they begin
pub returns-in_err-start-in-Hextile-clause-goes : goal.returns-in_err-start-in-Hextile-clause-goes
unfolding go_on data_at hextile_goes_on
returns-in_err-start-in-Hextile-clause-goes c = λ width height more.
    let f = c.args.format.now in
    let all = hextile.data_at f c.args.area.w c.args.area.h more in
    rw (c.from_residual.ensures, c.in-Hextile.is)
    (ap (λ n. judged_as faults.BadHextile (hextile_goes_on f n more)) (sym c.in_err-start-in-Hextile.was)
    ∙ ap (judged_as faults.BadHextile) (c.start.ensures f more) ∙ judged_again faults.BadHextile all)

pub returns-in_ok-start-in-Hextile-clause-goes : goal.returns-in_ok-start-in-Hextile-clause-goes
unfolding go_on resume data_at hextile_goes_on
returns-in_ok-start-in-Hextile-clause-goes c = λ width height more.
    let f = c.args.format.now in
    let all = hextile.data_at f c.args.area.w c.args.area.h more in
    rw c.in-Hextile.is
    (ap (λ n. judged_as faults.BadHextile (hextile_goes_on f n more)) (sym c.in_ok-start-in-Hextile.was)
    ∙ ap (judged_as faults.BadHextile) (c.start.ensures f more) ∙ judged_again faults.BadHextile all)

pub returns-in_ok-start-in-Hextile-clause-some : goal.returns-in_ok-start-in-Hextile-clause-some
returns-in_ok-start-in-Hextile-clause-some c = λ some. hextile_some c.args.format.now _ some
