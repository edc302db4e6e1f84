-- What room a reader takes, one piece after the other.
use Rattle.std.proofs.Common.{◌≡◌, ℕ, ◌+◌, arith}
use Rattle.rfb_wire.specs.declared.partial_message.PartialMessage.{PartialMessage}
use Rattle.rfb_wire.specs.PartialMessage.{TakesFor}

-- bytes are taken after others
pub takes_both : (a b : ℕ) (old between new : PartialMessage) (n : ℕ) → n ≡ a + b → TakesFor a old between → TakesFor b between new → TakesFor n old new
takes_both a b old between new n is first second = record {
  kept = omega (arith, first.kept, second.kept);
  room = omega (arith, first.kept, first.room, second.room);
  capacities = omega (arith, first.kept, first.capacities, second.capacities);
}
