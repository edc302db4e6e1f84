use Rattle.std.proofs.Common.{◌≡◌, ℕ, List, ◌++◌, length}
use Rattle.client_wire.specs.Grammar.{message_at}
use Rattle.client_wire.specs.PartialMessage.{IsAt, passed_in, TakesFor}
use Rattle.client_wire.specs.Stream.{Moves, StandsFor, itself}
use Rattle.client_wire.proofs.partial_message.PartialMessage.read.Given as goal

-- what of the piece is read is given, kept, or read over
abbrev pub invariant-loop-rest : goal.invariant-loop-rest
invariant-loop-rest l = record {
  at : IsAt l.self;
  front : List ℕ;
  takes : TakesFor (length front) l.initial.self l.self;
  piece : l.initial.rest ≡ front ++ l.rest;
  moves : (rest : List ℕ) → StandsFor l.initial.self.bytes.items (passed_in l.initial.self.position) rest
      → Moves message_at itself l.self.bytes.items (passed_in l.self.position) l.initial.out.items l.out.items (rest ++ front);
}

abbrev pub decreases-loop-rest : goal.decreases-loop-rest
decreases-loop-rest l = length l.rest
