use Rattle.std.proofs.Common.{◌≡◌, ℕ, List, ◌++◌, length}
use Rattle.std.specs.Prelude.{None}
use Rattle.viewer_session.specs.Feeding.{Takes, KeepsView}
use Rattle.viewer_session.proofs.session.Session.feed.Given as goal

-- the parts so far are taken
abbrev pub invariant-parts : goal.invariant-parts
invariant-parts l = record {
  front : List ℕ;
  piece : l.initial.rest ≡ front ++ l.rest;
  going : l.self.fault ≡ None;
  fed : Takes l.initial.self l.self front;
  kept : KeepsView l.initial.self l.self;
}

abbrev pub decreases-parts : goal.decreases-parts
decreases-parts l = length l.rest
