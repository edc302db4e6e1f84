use Rattle.std.proofs.Common.{◌≡◌, drop}
use Rattle.request_head.specs.Lines.{is_plain_line}
use Rattle.request_head.proofs.head.is_plain_line.Given as goal

abbrev pub invariant-loop-byte : goal.invariant-loop-byte
invariant-loop-byte l = is_plain_line l.bytes ≡ is_plain_line (drop l.byte-index l.bytes)
