use Rattle.disk.specs.CrashLaws.{MayLeave-left}
use Rattle.disk.specs.MemoryLaws.{present_of, Agrees-moments_of}
use Rattle.disk.proofs.memory.MemoryDisk.left.Goals.{in-Held, in-Now, in-Byte}
use Rattle.disk.proofs.memory.MemoryDisk.left.Goals as goal

pub returns-clause-filled : goal.returns-clause-filled
returns-clause-filled c =
    rw (← c.self.view_is, present_of) (elim c.match-fill.branch [
      | in-Held w ↦ rw (w.in-Held.is, w.bytes-is) w.undo_to_sync.ensures
      | in-Now w ↦ rw (w.in-Now.is, w.bytes-is)
      | in-Byte w ↦ rw (w.in-Byte.is, w.bytes-is) (record { same_length = w.overwrite_to_sync.ensures.same_length; each = w.overwrite_to_sync.ensures.each })
    ])

pub returns-clause-allowed : goal.returns-clause-allowed
returns-clause-allowed c = MayLeave-left c.args.fill _ _ (Agrees-moments_of _ _) (returns-clause-filled c)
