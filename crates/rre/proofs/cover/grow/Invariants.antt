use Rattle.std.proofs.Common.{◌≡◌, ℕ, ◌+◌, ◌-◌, ◌*◌, ◌<◌, ◌≤◌, length, get_or}
use Rattle.rre.proofs.cover.grow.Given as goal

abbrev pub invariant-loop-end : goal.invariant-loop-end
invariant-loop-end l = record {
  some : l.row < l.end;
  within : l.end ≤ l.h;
  same : (k r : ℕ) → k < l.width → l.row ≤ r → r < l.end → get_or l.numbers (r * length l.reach + (l.column + k)) 0 ≡ l.number;
}

abbrev pub decreases-loop-end : goal.decreases-loop-end
decreases-loop-end l = l.h - l.end
