use Rattle.std.proofs.Common.{◌≡◌, ◌⊎◌, ap, sym, subst, List, ℕ, inl, inr, refl}
use Rattle.disk.specs.Contents.{IsWritten}
use Rattle.disk.specs.Moments.{GoesOn-present, GoesOn-weaken}
use Rattle.recording_name.specs.FolderHistory.{present}
use Rattle.recording_name.specs.Folder.{Folder}
use Rattle.recording_name.specs.Kept.{WritesOnly}
use Rattle.recording_name.specs.Memory.{state_of, after, written, history_of}
use Rattle.recording_name.specs.MemoryLaws.{WritesOnly-after, this_file}
use Rattle.recording_name.specs.declared.memory_folder.Event.TheVariants.{Wrote}
use Rattle.recording_name.proofs.Noted.{on_noted_after, goes_noted_after}
use Rattle.recording_name.proofs.memory_folder.MemoryFolder.write_at.Goals as goal

pub returns-clause-written : goal.returns-clause-written
returns-clause-written c =
    let file = c.args.file.now.number in
    let offset = c.args.offset in
    let R : Folder → Folder → Type 0 = λ f g. IsWritten offset c.args.bytes.now (f.files file) (g.files file) in
    let f : Folder = state_of c.args.self.now in
    let e = Wrote file offset c.in_ok-bytes.bytes in
    let here : IsWritten offset c.in_ok-bytes.bytes.items (f.files file) (written offset c.in_ok-bytes.bytes.items (f.files file)) = record { now = refl; held = refl; touched = λ p. refl } in
    let there : IsWritten offset c.in_ok-bytes.bytes.items (f.files file) ((after f e).files file) =
    subst (IsWritten offset c.in_ok-bytes.bytes.items (f.files file)) (sym (this_file file (written offset c.in_ok-bytes.bytes.items (f.files file)) f)) here in
    let step : R f (after f e) = subst (λ (b : List ℕ). IsWritten offset b (f.files file) ((after f e).files file)) c.in_ok-bytes.ensures.items there in
    on_noted_after c.note.result c.args.self.now c.count.new.self c.note.new.self e R c.count.ensures step c.note.ensures.ok

pub returns-clause-only : goal.returns-clause-only
returns-clause-only c =
    goes_noted_after c.note.result c.args.self.now c.count.new.self c.note.new.self (Wrote c.args.file.now.number c.args.offset c.in_ok-bytes.bytes) (WritesOnly c.args.file.now.number) c.count.ensures (WritesOnly-after _ _ _) c.note.ensures.ok c.note.ensures.err

pub returns-clause-names : goal.returns-clause-names
returns-clause-names c name =
    let a = history_of c.args.self.now in
    let b = history_of c.note.new.self in
    let P : Folder → Type 0 = λ f. f.names name ≡ (present a).names name in
    GoesOn-present a b P refl (GoesOn-weaken a b (λ f. (f ≡ present a) ⊎ WritesOnly c.args.file.now.number (present a) f) P (λ f step. elim step [
      | inl same ↦ ap (λ (g : Folder). g.names name) same
      | inr writes ↦ writes.names name
    ]) (returns-clause-only c))
