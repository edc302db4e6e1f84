use Rattle.std.proofs.Common.{rules, true, false, ◌≡◌, ℕ, List, take, arith, refl, ◌∙◌}
use Rattle.std.specs.Str.{bytes_eq}
use Rattle.terms.specs.Reading.{Reading, guard}
use Rattle.fbs_export.specs.declared.fault.FbsFault.{FbsFault}
use Rattle.fbs_export.specs.declared.fault.FbsFault.TheVariants as faults
use Rattle.fbs_export.specs.Opening.{Opening, opening_at, security_then, version}
use Rattle.fbs_export.proofs.Judging.{part_short, part_whole, judged_after}
use Rattle.fbs_export.proofs.judge.judge.Goals as goal

next : List ℕ → List ℕ → Reading Opening FbsFault
next v rest = guard (bytes_eq v version) faults.Version (security_then rest)

pub returns-then-bytes-lt12 : goal.returns-then-bytes-lt12
unfolding opening_at next
returns-then-bytes-lt12 c =
    let short = c.if-bytes-lt12.true in
    (part_short 12 c.args.bytes.now next short, omega (arith, short))

pub returns-then-ne : goal.returns-then-ne
unfolding opening_at next
returns-then-ne c = λ more.
    let not : bytes_eq (take 12 c.args.bytes.now) version ≡ false = rw (← c.split_at.ensures.front) (search rules) in
    part_whole 12 c.args.bytes.now more next c.if-bytes-lt12.false ∙ rw not refl

pub returns : goal.returns
unfolding opening_at next
returns c =
    let bytes = c.args.bytes.now in
    let is : bytes_eq (take 12 bytes) version ≡ true = rw (← c.split_at.ensures.front) (search rules) in
    let enough = c.if-bytes-lt12.false in
    judged_after opening_at security_then 12 28 40 bytes c.judge_security.result
    (λ more. part_whole 12 bytes more next enough ∙ rw is refl)
    enough refl (rw (← c.split_at.ensures.back) c.judge_security.ensures)
