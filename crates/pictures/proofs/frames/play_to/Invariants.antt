use Rattle.std.proofs.Common.{◌≡◌, ◌≤◌, ◌-◌}
use Rattle.keyed_entries.specs.Entry.{messages_in}
use Rattle.replay.specs.Screens.{IsScreenAt}
use Rattle.pictures.proofs.frames.play_to.Given as goal

abbrev pub invariant-loop-replay : goal.invariant-loop-replay
invariant-loop-replay g l =
    let D = g.D.Disk in
    let first = l.fn.index in record {
      position : l.fn.replay.position ≤ l.count → l.replay.position ≤ l.count;
      width : l.replay.screen.width ≡ l.fn.replay.screen.width;
      height : l.replay.screen.height ≡ l.fn.replay.screen.height;
      painted : D.is_modelled → IsScreenAt first.head (messages_in first.blocks) l.replay.position l.replay.screen;
      numbers : l.index.numbers ≡ first.numbers;
      head : l.index.head ≡ first.head;
      blocks : D.is_modelled → l.index.blocks ≡ first.blocks;
      history : D.is_modelled → D.history l.index.disk ≡ D.history first.disk;
      unfailed : D.is_modelled → D.failures l.index.disk ≡ D.failures first.disk;
    }

abbrev pub decreases-loop-replay : goal.decreases-loop-replay
decreases-loop-replay g l = l.count - l.replay.position
