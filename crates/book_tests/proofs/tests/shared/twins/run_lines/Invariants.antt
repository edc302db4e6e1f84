use Rattle.book_tests.specs.OnePixel.{IsOfOnePixel}
use Rattle.book_tests.proofs.tests.shared.twins.run_lines.Given as goal

abbrev pub invariant-loop-line : goal.invariant-loop-line
invariant-loop-line g l = IsOfOnePixel l.desk.head
