use Rattle.std.proofs.Common.{◌≡◌}
use Rattle.keyed_entries.specs.Entry.{messages_in}
use Rattle.fbs_export.proofs.Left.{SoFar, IsBase}
use Rattle.fbs_export.proofs.exporting.write_messages.Given as goal

-- the messages below this number are written
abbrev pub invariant-loop-number : goal.invariant-loop-number
invariant-loop-number g l = record {
  numbers : l.index.numbers ≡ l.fn.index.numbers;
  head : l.index.head ≡ l.fn.index.head;
  blocks : g.D.Disk.is_modelled → l.index.blocks ≡ l.fn.index.blocks;
  history : g.D.Disk.is_modelled → g.D.Disk.history l.index.disk ≡ g.D.Disk.history l.fn.index.disk;
  unfailed : g.D.Disk.is_modelled → g.D.Disk.failures l.index.disk ≡ g.D.Disk.failures l.fn.index.disk;
  base : g.D.Disk.is_modelled → IsBase (messages_in l.fn.index.blocks) l.from l.number l.to l.first;
  wrote : g.D.Disk.is_modelled → SoFar (messages_in l.fn.index.blocks) l.from l.number l.to (g.W.Write.contents l.fn.out) (g.W.Write.contents l.out);
}
