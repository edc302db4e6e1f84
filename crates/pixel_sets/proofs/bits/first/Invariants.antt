use Rattle.std.proofs.Common.{◌≡◌, ◌-◌, ◌≤◌, ℕ, true}
use Rattle.std.specs.Prelude.{◌&&◌}
use Rattle.pixel_sets.specs.Bits.{is_set, is_between}
use Rattle.pixel_sets.proofs.bits.first.Given as goal

-- no number up to the next one is in the set
abbrev pub invariant-loop-next : goal.invariant-loop-next
invariant-loop-next l = record {
  begun : l.from ≤ l.next;
  within : l.next ≤ l.to;
  none : (k : ℕ) → (is_between l.from l.next k && is_set l.words k) ≡ true → ⊥;
}

abbrev pub decreases-loop-next : goal.decreases-loop-next
decreases-loop-next l = l.to - l.next
