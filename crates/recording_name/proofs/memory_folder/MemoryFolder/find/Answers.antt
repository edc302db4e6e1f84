use Rattle.std.proofs.Common.{rules}
use Rattle.recording_name.specs.MemoryLaws.{present_of}
use Rattle.recording_name.proofs.memory_folder.MemoryFolder.find.Goals as goal

pub returns-clause-found : goal.returns-clause-found
returns-clause-found c = rw present_of (search rules)
