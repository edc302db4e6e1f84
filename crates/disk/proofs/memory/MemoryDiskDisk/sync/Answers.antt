use Rattle.std.proofs.Common.{◌≡◌, ◌∷◌, [], reverse, refl, arith, ap, ◌∙◌}
use Rattle.std.proofs.lemmas.List.{reverse-append}
use Rattle.disk.specs.contracts.memory.MemoryDisk.{the_view}
use Rattle.disk.specs.declared.memory.Event.TheVariants.{Synced}
use Rattle.std.proofs.Common.{◌++◌}
use Rattle.std.proofs.lemmas.Grind.{common_steps}
use Rattle.disk.specs.MemoryLaws.{NotesSync, NotesSync-noted}
use Rattle.disk.proofs.memory.MemoryDiskDisk.sync.Goals as goal

notes_sync : (c : goal.Else-is_err) → NotesSync c.args.self.now (the_view (record { bytes = c.self.inside.bytes; events = c.push.new.self; failures = c.self.inside.failures }))
notes_sync c =
    let pushed : c.push.new.self.items ≡ c.self.inside.events.items ++ Synced ∷ [] = grind (arith, common_steps) in
    rw (← c.self.view_is)
    (NotesSync-noted (the_view c.self.inside) _ refl (ap reverse pushed ∙ reverse-append c.self.inside.events.items _))

pub returns-clause-synced : goal.returns-clause-synced
returns-clause-synced c _ = (notes_sync c).synced

pub returns-clause-goes_on : goal.returns-clause-goes_on
returns-clause-goes_on c _ = (notes_sync c).goes_on
