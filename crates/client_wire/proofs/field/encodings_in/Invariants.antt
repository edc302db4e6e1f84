use Rattle.std.proofs.Common.{◌≡◌, ◌++◌, length}
use Rattle.client_wire.specs.Grammar.{numbers_of}
use Rattle.client_wire.proofs.field.encodings_in.Given as goal

-- the numbers so far, and those of the rest, are all
abbrev pub invariant-loop-rest : goal.invariant-loop-rest
invariant-loop-rest l = l.numbers.items ++ numbers_of l.rest ≡ numbers_of l.fn.field

abbrev pub decreases-loop-rest : goal.decreases-loop-rest
decreases-loop-rest l = length l.rest
