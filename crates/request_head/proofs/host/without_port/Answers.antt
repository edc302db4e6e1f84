use Rattle.std.proofs.Common.{◌≡◌, ◌+◌, ◌≤◌, ◌∷◌, ◌++◌, length, arith, ap, length-append}
use Rattle.request_head.proofs.Names.{port_further, failed, to_the_end}
use Rattle.request_head.proofs.host.without_port.Goals as goal
use Rattle.request_head.proofs.host.without_port.Goals.{else-byte-eq58-via-then-byte-eq58+else-are_digits, else-byte-eq58-via-else-byte-eq58}

pub loop-end-preserved : goal.loop-end-preserved
loop-end-preserved c = λ name port.
    port_further c.args.host.now name c.loop-end.end port (c.loop-end.invariant name port) (λ colon digits.
    elim c.else-byte-eq58.branch [
      | else-byte-eq58-via-then-byte-eq58+else-are_digits w ↦ failed w.are_digits.result _ w.are_digits.ensures w.if-are_digits.false (to_the_end c.args.host.now (c.loop-end.end + 1) digits)
      | else-byte-eq58-via-else-byte-eq58 w ↦ w.if-byte-eq58.false colon
    ])

pub returns : goal.returns
returns c = λ name port.
    let below : c.loop-end.end ≤ length name = c.loop-end.invariant name port in
    let long : length c.args.host.now ≡ length (name ++ 58 ∷ port.0) = ap length port.1 in
    omega (arith, below, long, length-append name (58 ∷ port.0), c.loop-end-test.false)
