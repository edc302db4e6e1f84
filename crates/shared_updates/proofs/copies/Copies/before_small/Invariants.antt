use Rattle.std.proofs.Common.{◌≤◌, length}
use Rattle.shared_updates.proofs.copies.Copies.before_small.Given as goal

abbrev pub invariant-loop-count : goal.invariant-loop-count
invariant-loop-count l = l.count ≤ length l.copies

abbrev pub decreases-loop-count : goal.decreases-loop-count
decreases-loop-count l = l.count
