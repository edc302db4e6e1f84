use Rattle.std.proofs.Common.{◌≡◌, drop}
use Rattle.broadcast.specs.Seats.{first_free}
use Rattle.broadcast.proofs.Seating.{following}
use Rattle.broadcast.proofs.seats.Seats.first_free.Given as goal

abbrev pub invariant-loop-number : goal.invariant-loop-number
invariant-loop-number l = first_free l.fn.self ≡ following l.number (first_free (drop l.number l.fn.self))
