use Rattle.std.proofs.Common.{◌≡◌, ℕ, ◌+◌, ◌-◌, ◌*◌, ◌<◌, ◌≤◌, get_or}
use Rattle.hextile.proofs.cover.grow.Given as goal

abbrev pub invariant-loop-end : goal.invariant-loop-end
invariant-loop-end l = record {
  down : l.row < l.end;
  within : l.end ≤ l.h;
  same : (a b : ℕ) → a < l.width → b < l.end - l.row → get_or l.numbers ((l.row + b) * l.w + (l.column + a)) 0 ≡ l.number;
}

abbrev pub decreases-loop-end : goal.decreases-loop-end
decreases-loop-end l = l.h - l.end
