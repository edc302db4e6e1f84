use Rattle.std.proofs.Common.{take}
use Rattle.web_target.specs.Targets.{IsDigits}
use Rattle.web_target.proofs.words.digits_first.Given as goal

abbrev pub invariant-loop-end : goal.invariant-loop-end
invariant-loop-end l = IsDigits (take l.end l.bytes)
