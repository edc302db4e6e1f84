-- What these bytes hold is what a disk of them is opened as.
use Rattle.std.proofs.Common.{◌≡◌, List, ℕ, length, sym, ◌∙◌, ap, subst}
use Rattle.std.proofs.lemmas.Bool.{eqb-true}
use Rattle.std.proofs.lemmas.List.{nil_from_length}
use Rattle.disk.specs.Memory.{Kept}
use Rattle.gated_journal.specs.Causes.{IsJudged}
use Rattle.recording_bytes.specs.Recording.{Block, Head, Recording}
use Rattle.recorder_opening.proofs.draft.is_left_by_creation.Goals as goal

pub returns-in-Ok : goal.returns-in-Ok
returns-in-Ok c = λ e h blocks recording.
    let held = ap (λ (d : Kept). d.bytes) c.from_bytes-disk.ensures.file in
    let same = sym held ∙ sym c.bytes-content.ensures.now ∙ c.bytes-content.ensures.present in
    let holds = c.in-Ok.ensures.opened tt in
    let read = c.in-Ok.ensures.read tt in
    let opened = holds.ready c.in-Ok.ensures.ready.0 in
    let here = subst (λ (file : List ℕ). Recording file c.in-Ok.journal.head holds.blocks) (read.any_moment.1 ∙ sym same) opened in
    let agree = c.one_reading.ensures c.args.bytes.items h c.in-Ok.journal.head blocks holds.blocks recording here in
    let none : length holds.blocks ≡ 0 = holds.counted ∙ sym c.blocks-in-Ok.ensures ∙ eqb-true _ _ e in
    agree.1 ∙ nil_from_length holds.blocks none

pub returns-in-NotARecording : goal.returns-in-NotARecording
returns-in-NotARecording c = λ e h blocks recording.
    let held = ap (λ (d : Kept). d.bytes) c.from_bytes-disk.ensures.file in
    let same = sym held ∙ sym c.bytes-content.ensures.now ∙ c.bytes-content.ensures.present in
    let judged = subst IsJudged (sym c.in-NotARecording.is) tt in
    absurd (c.in-Err.ensures.judged tt judged h blocks (subst (λ (file : List ℕ). Recording file h blocks) same recording))
