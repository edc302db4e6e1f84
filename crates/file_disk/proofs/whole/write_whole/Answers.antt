use Rattle.std.proofs.Common.{rules}
use Rattle.file_disk.proofs.Parts.{written_more, goes_on_more}
use Rattle.file_disk.proofs.whole.write_whole.Goals.{in-Ok, in-Err-Interrupted}
use Rattle.file_disk.proofs.whole.write_whole.Goals as goal

pub loop-preserved : goal.loop-preserved
loop-preserved g c = elim c.match-write_some.branch [
  | in-Ok w ↦ record {
    within = search rules;
    written = λ m. rw (w.done-is) (written_more _ _ _ _ _ _ _ (c.requires.within m) c.loop.invariant.within w.in-Ok.ensures.few (c.loop.invariant.written m) (w.in-Ok.ensures.written m));
    goes_on = λ m. goes_on_more _ _ _ _ _ _ (c.requires.within m) c.loop.invariant.within (c.loop.invariant.written m) (c.loop.invariant.goes_on m) (c.write_some.ensures.goes_on m);
  }
  | in-Err-Interrupted w ↦ record {
    within = search rules;
    written = search rules;
    goes_on = search rules;
  }
]
