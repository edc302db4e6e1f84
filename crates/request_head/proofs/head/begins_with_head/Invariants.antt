use Rattle.std.proofs.Common.{◌≡◌, drop}
use Rattle.request_head.specs.Lines.{begins_with_head}
use Rattle.request_head.proofs.head.begins_with_head.Given as goal

abbrev pub invariant-loop-index : goal.invariant-loop-index
invariant-loop-index l = begins_with_head l.bytes ≡ begins_with_head (drop l.index l.bytes)
