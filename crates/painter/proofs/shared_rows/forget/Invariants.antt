use Rattle.std.proofs.Common.{◌≡◌, ℕ, ◌≤◌, Some, None, List, get_or}
use Rattle.pixel_format.specs.declared.Color.{Color}
use Rattle.painter.proofs.shared_rows.forget.Given as goal

-- the first rows of the area are forgotten
abbrev pub invariant-loop-y : goal.invariant-loop-y
invariant-loop-y l = (k : ℕ) (row : List Color) → get_or l.kept k None ≡ Some row → (get_or l.initial.kept k None ≡ Some row) × (l.top ≤ k → l.y ≤ k)
