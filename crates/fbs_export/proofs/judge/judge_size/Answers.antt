use Rattle.std.proofs.Common.{◌≡◌, ℕ, List, true, false, take, arith, refl, ◌∙◌, rules}
use Rattle.terms.specs.Reading.{Reading, guard}
use Rattle.terms.specs.Number.{u16_at}
use Rattle.fbs_export.specs.declared.fault.FbsFault.{FbsFault}
use Rattle.fbs_export.specs.declared.fault.FbsFault.TheVariants as faults
use Rattle.terms.specs.declared.format.Format.TheVariants.{Two}
use Rattle.terms.specs.Limits.{limits, is_size}
use Rattle.fbs_export.specs.Opening.{Opening, size_then, format_then}
use Rattle.fbs_export.proofs.Judging.{part_short, part_whole, judged_after}
use Rattle.fbs_export.proofs.judge.judge_size.Goals as goal

next : List ℕ → List ℕ → Reading Opening FbsFault
next size rest = guard (is_size (limits Two) (u16_at size 0) (u16_at size 2)) faults.Size (format_then (u16_at size 0) (u16_at size 2) rest)

pub returns-then-bytes-lt4 : goal.returns-then-bytes-lt4
unfolding size_then next
returns-then-bytes-lt4 c =
    let short = c.if-bytes-lt4.true in
    (part_short 4 c.args.bytes.now next short, omega (arith, short))

pub returns-then-not-allow : goal.returns-then-not-allow
unfolding size_then next
returns-then-not-allow c = λ more.
    let wide : u16_at (take 4 c.args.bytes.now) 0 ≡ c.read_u16.result = rw (← c.split_at.ensures.front) (omega (arith, c.read_u16.ensures)) in
    let high : u16_at (take 4 c.args.bytes.now) 2 ≡ c.read_u16-2.result = rw (← c.split_at.ensures.front) (omega (arith, c.read_u16-2.ensures)) in
    let not : is_size (limits Two) c.read_u16.result c.read_u16-2.result ≡ false = search rules in
    part_whole 4 c.args.bytes.now more next c.if-bytes-lt4.false ∙ rw (wide, high, not) refl

pub returns : goal.returns
unfolding size_then next
returns c =
    let bytes = c.args.bytes.now in
    let wide : u16_at (take 4 c.args.bytes.now) 0 ≡ c.read_u16.result = rw (← c.split_at.ensures.front) (omega (arith, c.read_u16.ensures)) in
    let high : u16_at (take 4 c.args.bytes.now) 2 ≡ c.read_u16-2.result = rw (← c.split_at.ensures.front) (omega (arith, c.read_u16-2.ensures)) in
    let is : is_size (limits Two) c.read_u16.result c.read_u16-2.result ≡ true = search rules in
    let enough = c.if-bytes-lt4.false in
    judged_after size_then (format_then c.read_u16.result c.read_u16-2.result) 4 20 24 bytes c.judge_format.result
    (λ more. part_whole 4 bytes more next enough ∙ rw (wide, high, is) refl)
    enough refl (rw (← c.split_at.ensures.back) c.judge_format.ensures)
