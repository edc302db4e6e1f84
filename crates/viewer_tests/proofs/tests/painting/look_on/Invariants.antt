use Rattle.std.proofs.Common.{◌≡◌}
use Rattle.viewer_tests.proofs.tests.painting.look_on.Given as goal

-- both keep their size
abbrev pub invariant-loop : goal.invariant-loop
invariant-loop l = record {
  width : l.session.view.screen.width ≡ 20;
  height : l.session.view.screen.height ≡ 18;
  across : l.screen.width ≡ 20;
  down : l.screen.height ≡ 18;
}

abbrev pub invariant-loop-2 : goal.invariant-loop-2
invariant-loop-2 l = record {
  width : l.session.view.screen.width ≡ 20;
  height : l.session.view.screen.height ≡ 18;
  across : l.screen.width ≡ 20;
  down : l.screen.height ≡ 18;
}
