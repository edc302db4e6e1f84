use Rattle.std.proofs.Common.{◌≡◌, take}
use Rattle.shared_updates.proofs.wanted.same_copies.Given as goal

-- the first copies are the same
abbrev pub invariant-loop-k : goal.invariant-loop-k
invariant-loop-k l = take l.k l.one ≡ take l.k l.other
