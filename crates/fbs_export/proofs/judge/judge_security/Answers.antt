use Rattle.std.proofs.Common.{false, ◌≡◌, ℕ, List, take, arith, refl, ◌∙◌, nat_eq}
use Rattle.std.proofs.lemmas.Bool.{ne_eqb}
use Rattle.terms.specs.Reading.{Reading, guard}
use Rattle.terms.specs.Number.{u32_at}
use Rattle.fbs_export.specs.declared.fault.FbsFault.{FbsFault}
use Rattle.fbs_export.specs.declared.fault.FbsFault.TheVariants as faults
use Rattle.fbs_export.specs.Opening.{Opening, security_then, size_then}
use Rattle.fbs_export.proofs.Judging.{part_short, part_whole, judged_after}
use Rattle.fbs_export.proofs.judge.judge_security.Goals as goal

next : List ℕ → List ℕ → Reading Opening FbsFault
next security rest = guard (nat_eq (u32_at security 0) 1) faults.Security (size_then rest)

pub returns-then-bytes-lt4 : goal.returns-then-bytes-lt4
unfolding security_then next
returns-then-bytes-lt4 c =
    let short = c.if-bytes-lt4.true in
    (part_short 4 c.args.bytes.now next short, omega (arith, short))

pub returns-then-read_u32-ne-NONE : goal.returns-then-read_u32-ne-NONE
unfolding security_then next
returns-then-read_u32-ne-NONE c = λ more.
    let not : nat_eq (u32_at (take 4 c.args.bytes.now) 0) 1 ≡ false = rw (← c.split_at.ensures.front) (ne_eqb _ _ (λ e. c.if-read_u32-ne-NONE.true (omega (arith, e, c.read_u32.ensures)))) in
    part_whole 4 c.args.bytes.now more next c.if-bytes-lt4.false ∙ rw not refl

pub returns : goal.returns
unfolding security_then next
returns c =
    let bytes = c.args.bytes.now in
    let is : u32_at (take 4 bytes) 0 ≡ 1 = rw (← c.split_at.ensures.front) (omega (arith, c.read_u32.ensures, c.if-read_u32-ne-NONE.false)) in
    let enough = c.if-bytes-lt4.false in
    judged_after security_then size_then 4 24 28 bytes c.judge_size.result
    (λ more. part_whole 4 bytes more next enough ∙ rw is refl)
    enough refl (rw (← c.split_at.ensures.back) c.judge_size.ensures)
