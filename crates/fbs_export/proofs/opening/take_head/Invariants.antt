use Rattle.std.proofs.Common.{◌++◌, ℕ, List, take}
use Rattle.fbs_export.specs.Reader.{IsInHead}
use Rattle.fbs_export.proofs.opening.take_head.Given as goal

-- the bytes so far are kept
abbrev pub invariant-loop-taken : goal.invariant-loop-taken
invariant-loop-taken l = (s : List ℕ) → IsInHead l.fn.head.items s → IsInHead l.head.items (s ++ take l.taken l.piece)
