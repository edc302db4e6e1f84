use Rattle.std.proofs.Common.{◌≡◌, ◌+◌, ◌≤◌, ◌⊎◌, ℕ, suc, List, ◌++◌, length}
use Rattle.hextile.specs.Grammar.{subrectangle_bytes}
use Rattle.hextile.specs.Measuring.{parts_left}
use Rattle.hextile.proofs.measuring.judge_parts.Given as goal

-- the bytes in front of the rest are the subrectangles that aren't left
abbrev pub invariant-loop-left : goal.invariant-loop-left
invariant-loop-left l = record {
  front : List ℕ;
  bytes_are : l.bytes ≡ front ++ l.rest;
  same : (more : List ℕ) → parts_left l.format l.tile l.colored (suc l.others) (front ++ more) ≡ parts_left l.format l.tile l.colored l.left more;
  first : ((l.left ≡ l.others + 1) × (length l.rest ≡ length l.bytes)) ⊎ (subrectangle_bytes l.format l.colored + length l.rest ≤ length l.bytes);
  fewer : l.left ≤ l.others + 1;
}

abbrev pub decreases-loop-left : goal.decreases-loop-left
decreases-loop-left l = l.left
