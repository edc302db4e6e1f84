use Rattle.std.proofs.Common.{◌≡◌, ℕ, true, false, rules, refl, sym, ◌∙◌}
use Rattle.terms.specs.Number.{u16_at}
use Rattle.terms.specs.Limits.{limits, is_size}
use Rattle.host_session.specs.Handshake.{is_expected}
use Rattle.host_session.proofs.Goes.{size_goes, resume_head}
use Rattle.host_session.proofs.stage.after_size.Goals as goal

pub returns-then-not-allow-clause-faults : goal.returns-then-not-allow-clause-faults
returns-then-not-allow-clause-faults c = λ more.
    let w : ℕ = c.read_u16.result in
    let h : ℕ = c.read_u16-2.result in
    let w-is : u16_at c.args.field.now 0 ≡ w = search rules in
    let h-is : u16_at c.args.field.now 2 ≡ h = search rules in
    let no : is_size (limits c.args.expected.format) w h ≡ false = search rules in
    size_goes c.args.expected c.args.field.now more w h c.requires w-is h-is ∙ rw no refl

pub returns-then-not-expects-clause-faults : goal.returns-then-not-expects-clause-faults
returns-then-not-expects-clause-faults c = λ more.
    let w : ℕ = c.read_u16.result in
    let h : ℕ = c.read_u16-2.result in
    let w-is : u16_at c.args.field.now 0 ≡ w = search rules in
    let h-is : u16_at c.args.field.now 2 ≡ h = search rules in
    let yes : is_size (limits c.args.expected.format) w h ≡ true = search rules in
    let no : is_expected c.args.expected.size w h ≡ false = search rules in
    size_goes c.args.expected c.args.field.now more w h c.requires w-is h-is ∙ rw (yes, no) refl

pub returns-clause-goes : goal.returns-clause-goes
returns-clause-goes c = λ more.
    let w : ℕ = c.read_u16.result in
    let h : ℕ = c.read_u16-2.result in
    let w-is : u16_at c.args.field.now 0 ≡ w = search rules in
    let h-is : u16_at c.args.field.now 2 ≡ h = search rules in
    let yes : is_size (limits c.args.expected.format) w h ≡ true = search rules in
    let also : is_expected c.args.expected.size w h ≡ true = search rules in
    rw c.next.ensures (size_goes c.args.expected c.args.field.now more w h c.requires w-is h-is ∙ rw (yes, also) (sym (resume_head c.args.expected (record { width = w; height = h }) more)))
