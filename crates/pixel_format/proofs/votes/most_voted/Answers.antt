use Rattle.std.proofs.Common.{arith}
use Rattle.pixel_format.proofs.Voting.{run_votes, first_vote, vote_more, vote_less, voted}
use Rattle.pixel_format.proofs.votes.most_voted.Goals as goal
use Rattle.pixel_format.proofs.votes.most_voted.Goals.{then-votes-eq0, else-votes-eq0+then-numbers-k, else-votes-eq0+else-numbers-k}

pub loop-k-init : goal.loop-k-init
loop-k-init c = record { votes = run_votes c.args.numbers.now c.args.run c.requires.within c.requires.one_number c.requires.some }

pub loop-k-preserved : goal.loop-k-preserved
loop-k-preserved c =
    let so_far = c.loop-k.invariant.votes in
    let inside = c.loop-k-test.true in
    elim c.if-votes-eq0.branch [
      | then-votes-eq0 w ↦
          rw (w.index-is, w.votes-is) (record { votes = first_vote c.args.numbers.now c.loop-k.k c.loop-k.index c.loop-k.votes so_far inside w.if-votes-eq0.true })
      | else-votes-eq0+then-numbers-k w ↦
          rw (w.index-is, w.votes-is) (record { votes = vote_more c.args.numbers.now c.loop-k.k c.loop-k.index c.loop-k.votes so_far inside w.if-numbers-k.true })
      | else-votes-eq0+else-numbers-k w ↦
          let some = w.if-votes-eq0.false in
          rw (w.index-is, w.votes-is) (record {
            votes = vote_less c.args.numbers.now c.loop-k.k c.loop-k.index c.loop-k.votes so_far inside w.if-numbers-k.false (omega arith);
          })
    ]

pub returns-clause-majority : goal.returns-clause-majority
returns-clause-majority c = voted c.args.numbers.now c.loop-k.k c.loop-k.index c.loop-k.votes c.loop-k.invariant.votes c.loop-k-test.false (omega arith)
