use Rattle.std.proofs.Common.{◌≡◌}
use Rattle.connections.proofs.guest.Guest.greet.Given as goal

abbrev pub invariant-loop : goal.invariant-loop
invariant-loop g l = l.self.size ≡ l.fn.self.size
