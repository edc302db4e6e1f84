use Rattle.std.proofs.Common.{length, refl}
use Rattle.std.proofs.lemmas.Bool.{lt-ltb, le-ltb}
use Rattle.terms.specs.Reading as reading
use Rattle.terms.proofs.front.field.Goals as goal

pub returns-then-bytes-count-clause-reads : goal.returns-then-bytes-count-clause-reads
unfolding reading.field
returns-then-bytes-count-clause-reads c = rw (lt-ltb (length c.args.bytes.now) c.args.count c.if-bytes-count.true) refl

pub returns-clause-reads : goal.returns-clause-reads
unfolding reading.field
returns-clause-reads c = rw (le-ltb (length c.args.bytes.now) c.args.count c.if-bytes-count.false, c.split_at.ensures.front, c.split_at.ensures.back) refl
