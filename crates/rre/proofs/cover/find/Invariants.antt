use Rattle.std.proofs.Common.{ℕ, ◌+◌, drop}
use Rattle.rre.specs.Numbered.{IsFirstOf, IsNew}
use Rattle.rre.proofs.cover.find.Given as goal

-- what is found among those that are left is what is found among all
abbrev pub invariant-loop-index : goal.invariant-loop-index
invariant-loop-index l = record {
  first : (i : ℕ) → IsFirstOf (drop l.index l.counts) l.number i → IsFirstOf l.counts l.number (l.index + i);
  new : IsNew (drop l.index l.counts) l.number → IsNew l.counts l.number;
}
