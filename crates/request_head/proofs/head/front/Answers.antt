use Rattle.std.proofs.Common.{◌≤◌, ℕ, List, length, take, arith, sym}
use Rattle.std.proofs.lemmas.List.{take_all, length-take-le}
use Rattle.request_head.proofs.head.front.Goals as goal

no_longer : (n : ℕ) (bytes : List ℕ) → n ≤ length bytes → length (take n bytes) ≤ n
no_longer n bytes long = omega (arith, length-take-le n bytes long)

pub returns-then-bytes-le-LONGEST_HEAD-clause-front : goal.returns-then-bytes-le-LONGEST_HEAD-clause-front
returns-then-bytes-le-LONGEST_HEAD-clause-front c = sym (take_all 8192 c.args.bytes.now c.if-bytes-le-LONGEST_HEAD.true)

pub slice_bounds-result-end : goal.slice_bounds-result-end
slice_bounds-result-end c = sym (length-take-le 8192 c.args.bytes.now (omega (arith, c.if-bytes-le-LONGEST_HEAD.false)))

pub returns-else-bytes-le-LONGEST_HEAD-clause-length : goal.returns-else-bytes-le-LONGEST_HEAD-clause-length
returns-else-bytes-le-LONGEST_HEAD-clause-length c = no_longer 8192 c.args.bytes.now (omega (arith, c.if-bytes-le-LONGEST_HEAD.false))
