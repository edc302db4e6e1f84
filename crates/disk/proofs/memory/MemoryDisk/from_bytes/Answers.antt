use Rattle.disk.specs.MemoryLaws.{IsOnDisk-made}
use Rattle.disk.proofs.memory.MemoryDisk.from_bytes.Goals as goal

pub returns-clause-held : goal.returns-clause-held
returns-clause-held c = rw c.new.ensures.items (IsOnDisk-made _)
