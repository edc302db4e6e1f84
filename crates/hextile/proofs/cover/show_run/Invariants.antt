use Rattle.std.proofs.Common.{◌≡◌, ℕ, ◌<◌, cond, get_or, length}
use Rattle.std.specs.Prelude.{nat_lt, nat_le, ◌&&◌}
use Rattle.hextile.proofs.cover.show_run.Given as goal

abbrev pub invariant-loop-k : goal.invariant-loop-k
invariant-loop-k l =
    (i : ℕ) → i < length l.initial.shown → get_or l.shown i 0 ≡ cond (nat_le l.start i && nat_lt i l.k) l.number (get_or l.initial.shown i 0)
