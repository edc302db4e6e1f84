use Rattle.std.proofs.Common.{◌-◌, length}
use Rattle.rre.proofs.Frequencies.{IsTally}
use Rattle.rre.proofs.cover.most_counted.Given as goal

abbrev pub invariant-loop-start : goal.invariant-loop-start
invariant-loop-start l = record {
  tally : IsTally l.numbers l.counts.items l.start l.index l.most;
}

abbrev pub decreases-loop-start : goal.decreases-loop-start
decreases-loop-start l = length l.numbers - l.start
