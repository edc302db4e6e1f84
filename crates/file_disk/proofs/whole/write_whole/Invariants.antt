use Rattle.std.proofs.Common.{◌≤◌, length, take}
use Rattle.disk.specs.Contents.{IsWritten, IsWithinWrite}
use Rattle.disk.specs.History.{present, GoesOn}
use Rattle.file_disk.proofs.whole.write_whole.Given as goal

abbrev pub invariant-loop : goal.invariant-loop
invariant-loop g l = record {
  within : l.done ≤ length l.bytes;
  written : g.F.SystemFile.is_modelled → IsWritten l.offset (take l.done l.bytes) (present (g.F.SystemFile.history l.fn.file)) (present (g.F.SystemFile.history l.file));
  goes_on : g.F.SystemFile.is_modelled → GoesOn (g.F.SystemFile.history l.fn.file) (g.F.SystemFile.history l.file) (IsWithinWrite l.offset (length l.bytes) (present (g.F.SystemFile.history l.fn.file)));
}
