use Rattle.std.proofs.Common.{◌≡◌, ℕ, ◌+◌, ◌-◌, ◌<◌, ◌≤◌, length, get_or}
use Rattle.rre.proofs.cover.run_end.Given as goal

abbrev pub invariant-loop-end : goal.invariant-loop-end
invariant-loop-end l = record {
  some : l.column < l.end;
  within : l.end ≤ length l.reach;
  one_number : (k : ℕ) → l.column ≤ k → k < l.end → get_or l.numbers (l.start + k) 0 ≡ l.number;
}

abbrev pub decreases-loop-end : goal.decreases-loop-end
decreases-loop-end l = length l.reach - l.end
