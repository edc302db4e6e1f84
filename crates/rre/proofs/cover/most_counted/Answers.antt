use Rattle.rre.proofs.Frequencies.{most_frequent, tally_when_more, tally_when_no_more}
use Rattle.rre.proofs.cover.most_counted.Goals as goal

pub loop-start-preserved-then-most-count : goal.loop-start-preserved-then-most-count
loop-start-preserved-then-most-count c =
    let run = c.end_of_run-end.ensures in
    record {
      tally = tally_when_more c.args.numbers.now c.loop-start.counts.items c.count_more.new.counts.items c.loop-start.start c.end_of_run-end.result c.loop-start.index c.loop-start.most c.in_ok-count.count
          c.loop-start.invariant.tally (record { some = run.some; within = run.within; same = run.one_number }) c.in_ok-count.ensures.total c.in_ok-count.ensures.counts c.if-most-count.true;
    }

pub loop-start-preserved : goal.loop-start-preserved
loop-start-preserved c =
    let run = c.end_of_run-end.ensures in
    record {
      tally = tally_when_no_more c.args.numbers.now c.loop-start.counts.items c.count_more.new.counts.items c.loop-start.start c.end_of_run-end.result c.loop-start.index c.loop-start.most c.in_ok-count.count
          c.loop-start.invariant.tally (record { some = run.some; within = run.within; same = run.one_number }) c.in_ok-count.ensures.total c.in_ok-count.ensures.counts c.if-most-count.false;
    }

pub returns-clause-frequent : goal.returns-clause-frequent
returns-clause-frequent c =
    most_frequent c.args.numbers.now c.loop-start.counts.items c.loop-start.start c.loop-start.index c.loop-start.most c.loop-start.invariant.tally c.loop-start-test.false
