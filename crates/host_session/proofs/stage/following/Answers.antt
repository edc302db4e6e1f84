use Rattle.std.proofs.Common.{◌≡◌, ℕ, List, ◌++◌, length, sym, ap, ◌∙◌}
use Rattle.std.specs.Prelude.{min}
use Rattle.host_session.specs.Handshake.{text_limit}
use Rattle.host_session.specs.Stage.{resume, wants_of}
use Rattle.host_session.proofs.Goes.{reason_goes, length_goes, head_goes}
use Rattle.host_session.proofs.stage.following.Goals as goal

pub returns-in-Reason-clause-faults : goal.returns-in-Reason-clause-faults
returns-in-Reason-clause-faults c = λ more.
    let f : List ℕ = c.args.field.now in
    let whole : length f ≡ min c.in-Reason.count text_limit = c.requires ∙ ap wants_of c.in-Reason.is in
    ap (λ s. resume c.args.expected s (f ++ more)) c.in-Reason.is ∙ reason_goes c.args.expected f more c.in-Reason.count whole

pub returns-in-ReasonLength-clause-goes : goal.returns-in-ReasonLength-clause-goes
returns-in-ReasonLength-clause-goes c = λ more.
    let f : List ℕ = c.args.field.now in
    let whole : length f ≡ 4 = c.requires ∙ ap wants_of c.in-ReasonLength.is in
    let there = length_goes c.args.expected f more c.read_u32.result whole (sym c.read_u32.ensures) in
    ap (λ s. resume c.args.expected s (f ++ more)) c.in-ReasonLength.is ∙ rw c.next.ensures there

pub returns-in-Head-clause-goes : goal.returns-in-Head-clause-goes
returns-in-Head-clause-goes c = λ more.
    let f : List ℕ = c.args.field.now in
    let whole : length f ≡ 20 = c.requires ∙ ap wants_of c.in-Head.is in
    let there = head_goes c.args.expected f more c.in-Head.size c.read_u32-in-Head.result whole (sym c.read_u32-in-Head.ensures) in
    ap (λ s. resume c.args.expected s (f ++ more)) c.in-Head.is ∙ rw c.next-in-Head.ensures there
