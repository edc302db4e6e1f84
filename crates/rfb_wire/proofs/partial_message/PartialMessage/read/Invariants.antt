use Rattle.std.proofs.Common.{◌≡◌, ℕ, List, ◌++◌, length}
use Rattle.rfb_wire.specs.PartialMessage.{IsAt, passed_in, TakesFor}
use Rattle.client_wire.specs.Stream.{StandsFor}
use Rattle.client_wire.specs.Stream.{Moves}
use Rattle.rfb_wire.specs.Stream.{given}
use Rattle.rfb_wire.specs.Grammar.{message_at, message_limit}
use Rattle.rfb_wire.proofs.partial_message.PartialMessage.read.Given as goal

-- what of the piece is read is given, kept, or read over
abbrev pub invariant-loop-rest : goal.invariant-loop-rest
invariant-loop-rest l = record {
  at : IsAt (message_limit l.screen.format) l.screen.size.width l.screen.size.height l.self;
  front : List ℕ;
  takes : TakesFor (length front) l.initial.self l.self;
  piece : l.initial.rest ≡ front ++ l.rest;
  moves : (rest : List ℕ) → StandsFor l.initial.self.bytes.items (passed_in l.initial.self.over) rest
      → Moves (message_at (message_limit l.screen.format) l.screen.size.width l.screen.size.height) (given l.screen.format l.screen.size.width l.screen.size.height) l.self.bytes.items (passed_in l.self.over) l.initial.out.items l.out.items (rest ++ front);
}

abbrev pub decreases-loop-rest : goal.decreases-loop-rest
decreases-loop-rest l = length l.rest
