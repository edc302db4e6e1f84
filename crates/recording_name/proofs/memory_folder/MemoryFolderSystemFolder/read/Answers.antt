use Rattle.std.proofs.Common.{rules}
use Rattle.recording_name.specs.MemoryLaws.{present_of}
use Rattle.recording_name.proofs.memory_folder.MemoryFolderSystemFolder.read.Goals as goal

pub returns-clause-read : goal.returns-clause-read
returns-clause-read c _ = rw present_of (search rules)
