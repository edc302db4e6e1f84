use Rattle.std.proofs.Common.{◌≡◌}
use Rattle.host_captures.proofs.painting.print_screens.Given as goal

-- the screen keeps its size
abbrev pub invariant-loop-number : goal.invariant-loop-number
invariant-loop-number l = record {
  width : l.screen.width ≡ 320;
  height : l.screen.height ≡ 240;
}
