use Rattle.std.proofs.Common.{◌≡◌}
use Rattle.file_disk.proofs.whole.sync_whole.Given as goal

abbrev pub invariant-loop : goal.invariant-loop
invariant-loop g l = g.F.SystemFile.is_modelled → g.F.SystemFile.history l.file ≡ g.F.SystemFile.history l.fn.file
