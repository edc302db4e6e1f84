use Rattle.std.proofs.Common.{◌-◌, ◌≤◌}
use Rattle.std.specs.Prelude.{◌&&◌}
use Rattle.pixel_sets.specs.Bits.{is_set, is_between, AreEndsOf}
use Rattle.pixel_sets.proofs.bits.first_and_last.Given as goal

-- the numbers up to the next one are looked at
abbrev pub invariant-loop-next : goal.invariant-loop-next
invariant-loop-next l = record {
  begun : l.from ≤ l.next;
  within : l.next ≤ l.to;
  are : AreEndsOf (λ k. is_between l.from l.next k && is_set l.words k) l.found;
}

abbrev pub decreases-loop-next : goal.decreases-loop-next
decreases-loop-next l = l.to - l.next
