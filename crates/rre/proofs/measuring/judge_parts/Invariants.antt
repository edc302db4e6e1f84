use Rattle.std.proofs.Common.{◌≡◌, ◌+◌, ◌≤◌, ◌⊎◌, ℕ, List, ◌++◌, length}
use Rattle.rre.specs.Grammar.{subrectangle_bytes, subrectangles_at}
use Rattle.terms.specs.Measuring.{judged}
use Rattle.rre.proofs.measuring.judge_parts.Given as goal

-- the bytes in front of the rest are the subrectangles that aren't left
abbrev pub invariant-loop-left : goal.invariant-loop-left
invariant-loop-left l = record {
  front : List ℕ;
  bytes_are : l.bytes ≡ front ++ l.rest;
  same : (more : List ℕ) → judged (subrectangles_at l.format l.w l.h l.count (front ++ more)) ≡ judged (subrectangles_at l.format l.w l.h l.left more);
  fewer : l.left ≤ l.count;
  first : ((l.left ≡ l.count) × (length l.rest ≡ length l.bytes)) ⊎ (subrectangle_bytes l.format + length l.rest ≤ length l.bytes);
}

abbrev pub decreases-loop-left : goal.decreases-loop-left
decreases-loop-left l = l.left
