use Rattle.std.proofs.Common.{◌≡◌, take, arith, refl, ◌∙◌}
use Rattle.terms.specs.Number.{u32_at}
use Rattle.fbs_export.specs.Opening.{name_at, named}
use Rattle.fbs_export.proofs.Judging.{part_short, part_whole}
use Rattle.fbs_export.proofs.judge.judge_name.Goals as goal

pub returns-then-bytes-lt4 : goal.returns-then-bytes-lt4
unfolding name_at
returns-then-bytes-lt4 c =
    let short = c.if-bytes-lt4.true in
    (part_short 4 c.args.bytes.now (λ count rest. named c.args.size.width c.args.size.height (u32_at count 0) rest) short, short)

pub returns : goal.returns
unfolding name_at
returns c =
    let bytes = c.args.bytes.now in
    let count : u32_at (take 4 bytes) 0 ≡ c.read_u32-count.result = rw (← c.split_at.ensures.front) (omega (arith, c.read_u32-count.ensures)) in
    (c.if-bytes-lt4.false, λ more. part_whole 4 bytes more (λ count rest. named c.args.size.width c.args.size.height (u32_at count 0) rest) c.if-bytes-lt4.false ∙ rw count refl)
