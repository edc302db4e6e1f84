use Rattle.std.proofs.Common.{◌-◌, ◌≡◌, ◌≤◌, ℕ, cond}
use Rattle.pixel_sets.specs.Bits.{is_set, is_between}
use Rattle.pixel_sets.proofs.bits.fill.Given as goal

-- the numbers up to the next one are filled
abbrev pub invariant-loop-next : goal.invariant-loop-next
invariant-loop-next l = record {
  begun : l.from ≤ l.next;
  within : l.next ≤ l.to;
  filled : (k : ℕ) → is_set l.words k ≡ cond (is_between l.from l.next k) l.value (is_set l.initial.words k);
}

abbrev pub decreases-loop-next : goal.decreases-loop-next
decreases-loop-next l = l.to - l.next
