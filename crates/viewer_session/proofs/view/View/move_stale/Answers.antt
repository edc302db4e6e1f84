use Rattle.std.proofs.Common.{◌≡◌, ℕ, ◌-◌, ◌<◌, Bool, true, refl, ap, ◌∙◌, subst, arith}
use Rattle.std.specs.Prelude.{not, ◌&&◌, ◌||◌, Some, None}
use Rattle.terms.specs.Area.{is_in}
use Rattle.pixel_sets.specs.Pixels.{PixelSet, holds}
use Rattle.terms.specs.declared.area.Area.{Area}
use Rattle.terms.specs.declared.screen_size.ScreenSize.{ScreenSize}
use Rattle.viewer_session.proofs.Carried.{stale_lies}
use Rattle.viewer_session.proofs.view.View.move_stale.Goals as goal

pub moved-moved-requires-clause-right : goal.moved-moved-requires-clause-right
moved-moved-requires-clause-right c =
    let lies = stale_lies c.args.copy c.args.self.now.stale c.in-Some.stale (rw c.source.ensures at c.in-Some.ensures) in
    let ll = lies.left in
    let lr = lies.right in
    let la = lies.across in
    let columns = c.requires.within.area.within.columns in
    let width : c.size-sides.result.width ≡ c.args.self.now.screen.width = ap (λ (z : ScreenSize). z.width) c.size-sides.ensures in
    omega arith

pub moved-moved-requires-clause-bottom : goal.moved-moved-requires-clause-bottom
moved-moved-requires-clause-bottom c =
    let lies = stale_lies c.args.copy c.args.self.now.stale c.in-Some.stale (rw c.source.ensures at c.in-Some.ensures) in
    let lt = lies.top in
    let lb = lies.bottom in
    let ld = lies.down in
    let rows = c.requires.within.area.within.rows in
    let height : c.size-sides.result.height ≡ c.args.self.now.screen.height = ap (λ (z : ScreenSize). z.height) c.size-sides.ensures in
    omega arith

pub returns-clause-moved : goal.returns-clause-moved
returns-clause-moved c =
    let copy = c.args.copy in
    let old : PixelSet = c.args.self.now.stale in
    record {
      left = record {
        stale = Some c.in-Some.stale;
        smallest = rw c.source.ensures at c.in-Some.ensures;
        left = λ x y across down.
            c.insert.ensures.just x y across down
            ∙ ap (λ (b : Bool). is_in c.moved-moved.result x y || b) (c.remove.ensures.just x y (subst (λ (n : ℕ). x < n) c.insert.ensures.size.width across) (subst (λ (n : ℕ). y < n) c.insert.ensures.size.height down))
            ∙ ap (λ (a : Area). is_in a x y || (holds old x y && not (is_in copy.area x y))) c.moved-moved.ensures;
      };
      sent_is = ap (λ (a : Area). Some a) c.moved-moved.ensures;
    }

pub returns-in_default-clause-moved : goal.returns-in_default-clause-moved
returns-in_default-clause-moved c =
    let copy = c.args.copy in
    let old : PixelSet = c.args.self.now.stale in
    record {
      left = record {
        stale = None;
        smallest = subst (λ (t : Area). (x y : ℕ) → (is_in t x y && holds old x y) ≡ true → ⊥) c.source.ensures (λ x y e. c.in_default.ensures x y e);
        left = c.remove.ensures.just;
      };
      sent_is = refl;
    }
