use Rattle.std.proofs.Common.{◌≡◌, drop}
use Rattle.shared_updates.specs.Copies.{all_in}
use Rattle.shared_updates.proofs.copies.Copies.are_in.Given as goal

-- those that are left decide
abbrev pub invariant-loop-copy : goal.invariant-loop-copy
invariant-loop-copy l = all_in l.copy-items l.outer ≡ all_in (drop l.copy-index l.copy-items) l.outer
