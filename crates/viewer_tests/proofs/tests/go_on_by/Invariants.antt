use Rattle.std.proofs.Common.{◌≡◌}
use Rattle.viewer_tests.proofs.tests.go_on_by.Given as goal

-- it keeps its size
abbrev pub invariant-loop : goal.invariant-loop
invariant-loop l = record {
  width : l.session.view.screen.width ≡ l.fn.width;
  height : l.session.view.screen.height ≡ 1;
}
