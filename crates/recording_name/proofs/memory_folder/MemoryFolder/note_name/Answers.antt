use Rattle.std.proofs.Common.{List, ℕ, subst}
use Rattle.recording_name.specs.Folder.{IsNamed}
use Rattle.recording_name.specs.Memory.{state_of, after}
use Rattle.recording_name.specs.MemoryLaws.{IsNamed-with}
use Rattle.recording_name.specs.declared.memory_folder.Event.TheVariants.{Named}
use Rattle.recording_name.proofs.Noted.{on_noted, goes_noted}
use Rattle.recording_name.proofs.memory_folder.MemoryFolder.note_name.Goals as goal

step : (c : goal.After-note) → IsNamed c.args.name.now c.args.file (state_of c.args.self.now) (after (state_of c.args.self.now) (Named c.in_ok-name.name c.args.file))
step c = subst (λ (name : List ℕ). IsNamed name c.args.file (state_of c.args.self.now) (after (state_of c.args.self.now) (Named c.in_ok-name.name c.args.file))) c.in_ok-name.ensures.ok (IsNamed-with _ c.args.file (state_of c.args.self.now))

pub returns-clause-named : goal.returns-clause-named
returns-clause-named c = on_noted c.note.result c.args.self.now c.note.new.self (Named c.in_ok-name.name c.args.file) (IsNamed c.args.name.now c.args.file) (step c) c.note.ensures.ok

pub returns-clause-goes_on : goal.returns-clause-goes_on
returns-clause-goes_on c = goes_noted c.note.result c.args.self.now c.note.new.self (Named c.in_ok-name.name c.args.file) (IsNamed c.args.name.now c.args.file) (step c) c.note.ensures.ok c.note.ensures.err
