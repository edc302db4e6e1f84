use Rattle.std.proofs.Common.{◌≡◌}
use Rattle.wire_vectors.proofs.served.take_parts.Given as goal

-- the session keeps its screen's size
abbrev pub invariant-loop-number : goal.invariant-loop-number
invariant-loop-number l = record {
  can_next : (goal.iterator-loop-number).can_next l.number-iterator;
  is_finite : (goal.iterator-loop-number).is_finite l.number-iterator;
  width : l.session.view.screen.width ≡ l.size.width;
  height : l.session.view.screen.height ≡ l.size.height;
}
