use Rattle.std.proofs.Common.{rules}
use Rattle.recording_name.specs.MemoryLaws.{present_of}
use Rattle.recording_name.proofs.memory_folder.MemoryFolder.told_of.Goals as goal

pub returns-clause-length : goal.returns-clause-length
returns-clause-length c = rw present_of (search rules)
