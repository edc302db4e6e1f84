use Rattle.std.proofs.Common.{◌+◌, ◌-◌, length, refl, rules}
use Rattle.std.proofs.lemmas.Slice.{take-put_mid}
use Rattle.file_disk.proofs.Parts.{read_more, read_none}
use Rattle.file_disk.proofs.whole.read_whole.Goals.{in-Ok, in-Err-Interrupted}
use Rattle.file_disk.proofs.whole.read_whole.Goals as goal

pub loop-preserved : goal.loop-preserved
loop-preserved g c = elim c.match-read_some.branch [
  | in-Ok w ↦
      let inv = c.loop.invariant in
      let new = c.read_some.new.buffer in
      record {
        within = search rules;
        size = search rules;
        read = λ m. rw (w.done-is) (read_more _ c.loop.buffer new _ c.args.offset c.loop.done _ (take-put_mid c.loop.done (length c.loop.buffer - c.loop.done) c.loop.buffer new (c.loop.done + length new) refl inv.within) inv.within (search rules) (inv.read m) (rw (← inv.history m) (w.in-Ok.ensures.read m)));
        history = search rules;
      }
  | in-Err-Interrupted w ↦
      let inv = c.loop.invariant in
      let new = c.read_some.new.buffer in
      record {
        within = search rules;
        size = search rules;
        read = λ m. rw (w.done-is) (read_none _ c.loop.buffer new _ c.args.offset c.loop.done (take-put_mid c.loop.done (length c.loop.buffer - c.loop.done) c.loop.buffer new (c.loop.done + length new) refl inv.within) inv.within (inv.read m));
        history = search rules;
      }
]
