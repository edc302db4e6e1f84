use Rattle.pixel_format.proofs.Voting.{IsVote}
use Rattle.pixel_format.proofs.votes.most_voted.Given as goal

abbrev pub invariant-loop-k : goal.invariant-loop-k
invariant-loop-k l = record {
  votes : IsVote l.numbers l.k l.index l.votes;
}
