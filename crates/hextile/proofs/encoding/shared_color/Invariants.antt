use Rattle.std.proofs.Common.{◌≡◌, ℕ, ◌<◌, get_or}
use Rattle.hextile.specs.declared.cover.Part.{Part}
use Rattle.hextile.proofs.encoding.shared_color.Given as goal

abbrev pub invariant-loop-part : goal.invariant-loop-part
invariant-loop-part l = (k : ℕ) (d : Part) → k < l.part-index → (get_or l.parts k d).color ≡ l.color
