use Rattle.std.proofs.Common.{take}
use Rattle.std.specs.Prelude.{◌&&◌, not}
use Rattle.pixel_sets.specs.Pixels.{holds, is_in_some, AreJust, SameSize}
use Rattle.pixel_sets.proofs.pixels.Pixels.remove_all.Given as goal

-- the areas so far are taken out
abbrev pub invariant-loop-area : goal.invariant-loop-area
invariant-loop-area l = record {
  size : SameSize l.initial.self l.self;
  just : AreJust l.self (λ x y. holds l.initial.self x y && not (is_in_some (take l.area-index l.areas) x y));
}
