use Rattle.std.proofs.Common.{◌≡◌, ℕ, ◌<◌, true, get_or}
use Rattle.pixel_format.proofs.runs.are_all.Given as goal

-- if none so far differs
abbrev pub invariant-loop-one : goal.invariant-loop-one
invariant-loop-one l = l.all ≡ true → (k : ℕ) → k < l.one-index → get_or l.numbers k 0 ≡ l.number
