use Rattle.std.proofs.Common.{subst, true, false, ◌≡◌, take, arith, refl, sym, ◌∙◌, Ok}
use Rattle.terms.specs.Reading.{guard}
use Rattle.fbs_export.specs.declared.fault.FbsFault.TheVariants as faults
use Rattle.fbs_export.specs.Judged.{IsJudged}
use Rattle.fbs_export.specs.Opening.{format_then, name_at, is_host}
use Rattle.fbs_export.proofs.Judging.{part_short, part_whole, judged_after}
use Rattle.fbs_export.proofs.judge.judge_format.Goals as goal

pub returns-then-bytes-lt16 : goal.returns-then-bytes-lt16
unfolding format_then
returns-then-bytes-lt16 c =
    let short = c.if-bytes-lt16.true in
    (part_short 16 c.args.bytes.now (λ format rest. guard (is_host format) faults.Format (name_at c.args.size.width c.args.size.height rest)) short, omega (arith, short))

pub returns-then-not-is_host_format : goal.returns-then-not-is_host_format
unfolding format_then
returns-then-not-is_host_format c = λ more.
    let bytes = c.args.bytes.now in
    let not : is_host (take 16 c.args.bytes.now) ≡ false = rw (← c.split_at.ensures.front) (sym c.is_host_format.ensures ∙ c.if-not-is_host_format.true) in
    part_whole 16 bytes more (λ format rest. guard (is_host format) faults.Format (name_at c.args.size.width c.args.size.height rest)) (c.if-bytes-lt16.false)
    ∙ rw not refl

pub returns : goal.returns
unfolding format_then
returns c =
    let bytes = c.args.bytes.now in
    let is : is_host (take 16 c.args.bytes.now) ≡ true = rw (← c.split_at.ensures.front) (sym c.is_host_format.ensures ∙ c.if-not-is_host_format.false) in
    let enough = c.if-bytes-lt16.false in
    judged_after (format_then c.args.size.width c.args.size.height) (name_at c.args.size.width c.args.size.height) 16 4 20 bytes (Ok c.judge_name.result)
    (λ more. part_whole 16 bytes more (λ format rest. guard (is_host format) faults.Format (name_at c.args.size.width c.args.size.height rest)) enough ∙ rw is refl)
    enough refl (subst (λ z. IsJudged (name_at c.args.size.width c.args.size.height) 4 z (Ok c.judge_name.result)) c.split_at.ensures.back c.judge_name.ensures)
