use Rattle.std.proofs.Common.{ℕ, Bool, true, false}
use Rattle.std.specs.Prelude.{◌&&◌}
use Rattle.std.proofs.lemmas.Bool.{and_parts, eqb-true, eq-eqb}
use Rattle.terms.specs.Area.{is_in}
use Rattle.pixel_sets.specs.Pixels.{holds}
use Rattle.viewer_session.proofs.Carried.{same_size, all_of_it}
use Rattle.viewer_session.proofs.view.View.are_lost.Goals as goal

pub returns-then-stale-area : goal.returns-then-stale-area
returns-then-stale-area c =
    let area = c.args.area in
    let found = c.in-Some.stale in
    let p : ℕ → ℕ → Bool = λ x y. is_in area x y && holds c.args.self.now.stale x y in (
      λ high. all_of_it area found p (λ x y e. (and_parts (is_in area x y) (holds c.args.self.now.stale x y) e).0) c.in-Some.ensures c.if-stale-area.true (eqb-true found.h area.h high),
      λ whole. eq-eqb found.h area.h (same_size found area p c.in-Some.ensures whole).1,
    )

pub returns-else-stale-area : goal.returns-else-stale-area
returns-else-stale-area c =
    let area = c.args.area in
    let found = c.in-Some.stale in
    let p : ℕ → ℕ → Bool = λ x y. is_in area x y && holds c.args.self.now.stale x y in (
      λ wide. absurd (c.if-stale-area.false (eqb-true found.w area.w wide)),
      λ whole. eq-eqb found.w area.w (same_size found area p c.in-Some.ensures whole).0,
    )
