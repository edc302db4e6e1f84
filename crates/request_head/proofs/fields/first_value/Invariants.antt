use Rattle.std.proofs.Common.{◌≡◌, drop}
use Rattle.request_head.specs.Fields.{covered, values_of}
use Rattle.request_head.proofs.fields.first_value.Given as goal

abbrev pub invariant-loop-index : goal.invariant-loop-index
invariant-loop-index l = values_of l.name (covered l.head l.fields) ≡ values_of l.name (covered l.head (drop l.index l.fields))
