use Rattle.std.proofs.Common.{◌+◌, ◌≤◌, length, rules}
use Rattle.disk.specs.MemoryLaws.{present_of}
use Rattle.disk.proofs.memory.MemoryDiskDisk.read_at.Goals as goal

pub slice_bounds-copy_from_slice-end : goal.slice_bounds-copy_from_slice-end
slice_bounds-copy_from_slice-end c =
    let within : c.args.offset + length c.args.buffer.now ≤ length c.args.self.now.bytes = rw present_of at c.requires.within in
    search rules

pub returns-clause-read : goal.returns-clause-read
returns-clause-read c = rw present_of (search rules)
