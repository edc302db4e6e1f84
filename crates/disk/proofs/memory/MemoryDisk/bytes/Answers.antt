use Rattle.std.proofs.Common.{rules}
use Rattle.disk.specs.MemoryLaws.{present_of}
use Rattle.disk.proofs.memory.MemoryDisk.bytes.Goals as goal

pub returns-clause-present : goal.returns-clause-present
returns-clause-present c = rw present_of (search rules)
