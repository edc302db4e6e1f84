use Rattle.std.proofs.Common.{◌≡◌, ℕ, cond, slice_index}
use Rattle.std.specs.Prelude.{nat_lt, nat_le, ◌&&◌}
use Rattle.rre.proofs.cover.raise.Given as goal

abbrev pub invariant-loop-c : goal.invariant-loop-c
invariant-loop-c l = (i : ℕ) → slice_index l.reach i ≡ cond (nat_le l.column i && nat_lt i l.c) l.end (slice_index l.initial.reach i)
