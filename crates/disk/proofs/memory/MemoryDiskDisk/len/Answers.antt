use Rattle.std.proofs.Common.{rules}
use Rattle.disk.specs.MemoryLaws.{present_of}
use Rattle.disk.proofs.memory.MemoryDiskDisk.len.Goals as goal

pub returns-clause-length : goal.returns-clause-length
returns-clause-length c = rw present_of (search rules)
