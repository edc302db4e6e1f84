use Rattle.std.proofs.Common.{◌≡◌, drop}
use Rattle.request_head.specs.Lines.{is_plain_start}
use Rattle.request_head.proofs.head.is_plain_start.Given as goal

abbrev pub invariant-loop-index : goal.invariant-loop-index
invariant-loop-index l = is_plain_start l.bytes ≡ is_plain_start (drop l.index l.bytes)
