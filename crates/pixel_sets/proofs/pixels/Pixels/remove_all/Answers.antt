use Rattle.std.proofs.Common.{◌∙◌, subst, ℕ, ◌<◌, arith}
use Rattle.pixel_sets.specs.Pixels.{holds}
use Rattle.pixel_sets.proofs.Sent.{taken_step}
use Rattle.pixel_sets.proofs.pixels.Pixels.remove_all.Goals as goal

pub loop-area-preserved : goal.loop-area-preserved
loop-area-preserved c =
    let size = c.take_out.ensures.size in
    let so_far = c.loop-area.invariant.size in
    record {
      size = record { width = size.width ∙ so_far.width; height = size.height ∙ so_far.height };
      just = λ x y across down.
          let here = subst (λ (n : ℕ). x < n) size.width across in
          let there = subst (λ (n : ℕ). y < n) size.height down in
          taken_step c.args.areas.now c.loop-area.area-index x y _ (holds c.args.self.now x y) (holds c.loop-area.self x y) _ (omega arith)
          (c.take_out.ensures.just x y across down) (c.loop-area.invariant.just x y here there);
    }
