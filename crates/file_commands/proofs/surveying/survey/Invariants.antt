use Rattle.std.proofs.Common.{◌≡◌}
use Rattle.file_commands.proofs.surveying.survey.Given as goal

abbrev pub invariant-loop-block : goal.invariant-loop-block
invariant-loop-block g l = l.index.numbers ≡ l.fn.index.numbers
