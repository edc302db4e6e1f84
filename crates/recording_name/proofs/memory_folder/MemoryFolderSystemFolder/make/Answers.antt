use Rattle.std.proofs.Common.{◌≡◌, ◌<◌, ℕ, List, None, subst, rules, arith}
use Rattle.recording_name.specs.Folder.{Folder, IsMade}
use Rattle.recording_name.specs.Memory.{state_of, after, IsBelow, history_of}
use Rattle.recording_name.specs.MemoryLaws.{IsMade-with, present_of}
use Rattle.recording_name.specs.FolderHistory.{present}
use Rattle.recording_name.specs.declared.memory_folder.Event.{Event}
use Rattle.recording_name.specs.declared.memory_folder.Event.TheVariants.{Made}
use Rattle.recording_name.proofs.Noted.{stands_noted, goes_noted_after}
use Rattle.recording_name.proofs.memory_folder.MemoryFolderSystemFolder.make.Goals.{In_ok-note}
use Rattle.recording_name.proofs.memory_folder.MemoryFolderSystemFolder.make.Goals as goal

step : (c : In_ok-note) → IsMade c.args.name.now c.in_ok-number.number (state_of c.args.self.now) (after (state_of c.args.self.now) (Made c.in_ok-name.name c.in_ok-number.number))
step c =
    let f : Folder = state_of c.args.self.now in
    let below : IsBelow c.in_ok-number.number f = subst (λ (events : List Event). IsBelow c.in_ok-number.number (state_of events)) c.find.ensures.same c.in_ok-number.ensures in
    let nothing : (present (history_of c.args.self.now)).names c.args.name.now ≡ None = search rules in
    let free : f.names c.args.name.now ≡ None = rw present_of at nothing in
    let P : List ℕ → Type 0 = λ name. f.names name ≡ None → IsMade name c.in_ok-number.number f (after f (Made c.in_ok-name.name c.in_ok-number.number)) in
    subst P c.in_ok-name.ensures.ok (λ there. IsMade-with _ c.in_ok-number.number f there (λ n has.
    let less : c.in_ok-number.number < c.in_ok-number.number = below n c.in_ok-number.number has in
    absurd (omega arith))) free

pub returns-clause-made : goal.returns-clause-made
returns-clause-made c _ =
    stands_noted c.args.self.now c.find.new.self c.note.new.self (Made c.in_ok-name.name c.in_ok-number.number) (IsMade c.args.name.now c.in_ok-number.number) c.find.ensures.same (step c) c.in_ok-note.ensures.ok

pub returns-clause-goes_on : goal.returns-clause-goes_on
returns-clause-goes_on c _ =
    goes_noted_after c.note.result c.args.self.now c.find.new.self c.note.new.self (Made c.in_ok-name.name c.in_ok-number.number) (λ f g. (x : ℕ) × IsMade c.args.name.now x f g) c.find.ensures.same (c.in_ok-number.number, step c) c.note.ensures.ok c.note.ensures.err
