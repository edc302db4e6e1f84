use Rattle.std.proofs.Common.{◌∙◌}
use Rattle.pixel_sets.proofs.Clean.{smallest_taken}
use Rattle.pixel_sets.proofs.pixels.Pixels.remove.Goals as goal

pub returns-in-Some-clause-just : goal.returns-in-Some-clause-just
returns-in-Some-clause-just c = λ x y across down.
    c.take_out.ensures.just x y across down ∙ smallest_taken c.args.self.now c.args.area c.in-Some.part c.in-Some.ensures x y
