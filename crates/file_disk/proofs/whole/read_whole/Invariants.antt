use Rattle.std.proofs.Common.{◌≡◌, ◌≤◌, length, take, drop}
use Rattle.disk.specs.History.{present}
use Rattle.file_disk.proofs.whole.read_whole.Given as goal

abbrev pub invariant-loop : goal.invariant-loop
invariant-loop g l = record {
  within : l.done ≤ length l.buffer;
  size : length l.buffer ≡ length l.fn.buffer;
  read : g.F.SystemFile.is_modelled → take l.done l.buffer ≡ take l.done (drop l.offset (present (g.F.SystemFile.history l.fn.file)).now);
  history : g.F.SystemFile.is_modelled → g.F.SystemFile.history l.file ≡ g.F.SystemFile.history l.fn.file;
}
