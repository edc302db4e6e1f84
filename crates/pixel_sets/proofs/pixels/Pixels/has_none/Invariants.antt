use Rattle.std.proofs.Common.{◌≡◌, ℕ, ◌/◌, ◌<◌, true, false}
use Rattle.terms.specs.Area.{is_in}
use Rattle.pixel_sets.specs.Pixels.{holds}
use Rattle.pixel_sets.proofs.pixels.Pixels.has_none.Given as goal

-- no pixel of the rows of tiles so far is in the set
abbrev pub invariant-loop-row : goal.invariant-loop-row
invariant-loop-row l = (x y : ℕ) → is_in l.area x y ≡ true → y / 16 < l.row → holds l.self x y ≡ false
