use Rattle.std.proofs.Common.{◌≡◌, ℕ, List, ◌++◌}
use Rattle.host_session.specs.Stage.{rank_at, IsWithin, Leads}
use Rattle.host_session.specs.Take.{Says}
use Rattle.host_session.proofs.handshake.Handshake.take.Given as goal

-- what of the piece is taken leads here
abbrev pub invariant-turns : goal.invariant-turns
invariant-turns l = record {
  within : IsWithin l.self.position l.self.kept.items;
  front : List ℕ;
  piece : l.initial.rest ≡ front ++ l.rest;
  leads : Says (λ said. Leads l.expected l.initial.self.position l.initial.self.kept.items front said l.self.position l.self.kept.items) l.initial.due.items l.due.items;
}

abbrev pub decreases-turns : goal.decreases-turns
decreases-turns l = rank_at l.self.position
