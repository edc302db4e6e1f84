use Rattle.std.proofs.Common.{◌≡◌, ◌-◌, suc, arith, sym, ap}
use Rattle.rfb_wire.specs.PartialMessage.{go_on, resume, others_at}
use Rattle.rfb_wire.proofs.Resume.{others-zero}
use Rattle.rfb_wire.proofs.step.next_header.Goals as goal

pub returns-then-count-eq0-clause-goes : goal.returns-then-count-eq0-clause-goes
unfolding go_on
returns-then-count-eq0-clause-goes c = λ width height more. rw c.if-count-eq0.true (sym (others-zero width height c.args.at more))

pub returns-else-count-eq0-clause-goes : goal.returns-else-count-eq0-clause-goes
unfolding go_on resume
returns-else-count-eq0-clause-goes c = λ width height more.
    let is : suc (c.args.count - 1) ≡ c.args.count = omega arith in
    ap (λ n. others_at width height n c.args.at more) is
