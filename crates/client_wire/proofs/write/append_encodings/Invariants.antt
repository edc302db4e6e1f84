use Rattle.std.proofs.Common.{◌≡◌, ◌++◌, take, length}
use Rattle.std.specs.List.{flat_map}
use Rattle.client_wire.specs.Written.{number_bytes, encodings_head}
use Rattle.client_wire.proofs.write.append_encodings.Given as goal

-- the numbers so far follow the head
abbrev pub invariant-loop-number : goal.invariant-loop-number
invariant-loop-number l = l.out.items ≡ (l.fn.out.items ++ encodings_head (length l.encodings)) ++ flat_map number_bytes (take l.number-index l.encodings)
