use Rattle.std.proofs.Common.{◌≤◌, length, reverse, rules, ap, ◌∙◌}
use Rattle.std.proofs.lemmas.List.{reverse-append}
use Rattle.disk.specs.contracts.memory.MemoryDisk.{the_view}
use Rattle.disk.specs.MemoryLaws.{present_of, NotesWrite, NotesWrite-noted}
use Rattle.disk.proofs.memory.MemoryDiskDisk.write_at.Goals as goal

pub write-requires-clause-within : goal.write-requires-clause-within
write-requires-clause-within c =
    let within : c.args.offset ≤ length c.args.self.now.bytes = rw present_of at c.requires.within in
    search rules

notes_write : (c : goal.In-Ok) → NotesWrite c.args.offset c.args.bytes.now c.args.self.now (the_view (record { bytes = c.write.new.file; events = c.write.new.events; failures = c.self.inside.failures }))
notes_write c =
    let within : c.args.offset ≤ length c.args.self.now.bytes = rw present_of at c.requires.within in
    let inside_file : c.args.offset ≤ length c.self.inside.bytes.items = search rules in
    rw (← c.self.view_is)
    (NotesWrite-noted _ _ (the_view c.self.inside) _ inside_file c.in-Ok.ensures.written (ap reverse c.in-Ok.ensures.noted ∙ reverse-append c.self.inside.events.items _))

pub returns-in-Ok-clause-written : goal.returns-in-Ok-clause-written
returns-in-Ok-clause-written c = (notes_write c).written

pub returns-in-Ok-clause-goes_on : goal.returns-in-Ok-clause-goes_on
returns-in-Ok-clause-goes_on c = (notes_write c).goes_on
