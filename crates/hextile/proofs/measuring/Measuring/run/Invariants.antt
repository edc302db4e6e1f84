use Rattle.std.proofs.Common.{◌≡◌, ◌+◌, ◌≤◌, ◌⊎◌, ℕ, List, Some, ◌++◌, length}
use Rattle.hextile.specs.Measuring.{wants_of, resume, go_on}
use Rattle.hextile.proofs.measuring.Measuring.run.Given as goal

-- the bytes in front of the rest are judged
abbrev pub invariant-loop-next : goal.invariant-loop-next
invariant-loop-next l = record {
  front : List ℕ;
  bytes_are : l.bytes ≡ front ++ l.rest;
  first : ((l.next ≡ Some l.fn.self) × (length l.rest ≡ length l.bytes)) ⊎ (wants_of l.format l.fn.self + length l.rest ≤ length l.bytes);
  same : (more : List ℕ) → resume l.format l.fn.self (front ++ more) ≡ go_on l.format l.next more;
}

abbrev pub decreases-loop-next : goal.decreases-loop-next
decreases-loop-next l = length l.rest
