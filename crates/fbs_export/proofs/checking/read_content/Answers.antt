use Rattle.std.proofs.Common.{◌≡◌, ◌≤◌, ◌<◌, ◌+◌, ◌++◌, ℕ, List, [], length, take, ap, ◌∙◌, subst, arith, rules, append_assoc, append-nil, length-append}
use Rattle.std.specs.Io.KnownBytes.{Consumes}
use Rattle.std.proofs.KnownBytes.{Consumes-trans, Consumes-whole}
use Rattle.std.proofs.lemmas.List.{length-take}
use Rattle.std.proofs.lemmas.Result.{err_from_is_err_and}
use Rattle.std.proofs.lemmas.Slice.{take-put_mid}
use Rattle.terms.specs.Number.{u32_bytes}
use Rattle.fbs_export.specs.Blocks.{data_of, times_of}
use Rattle.fbs_export.specs.Reader.{Stands, IsDataFault}
use Rattle.fbs_export.specs.Summary.{IsFault, IsCutShort}
use Rattle.fbs_export.proofs.Filling.{first_part}
use Rattle.fbs_export.proofs.Fronts.{of_front}
use Rattle.fbs_export.proofs.Hearing.{no_fault_yet}
use Rattle.fbs_export.proofs.Laying.{content_fault, content_short}
use Rattle.fbs_export.proofs.checking.read_content.Goals as goal

pub returns-then-n-eq0-clause-fault : goal.returns-then-n-eq0-clause-fault
returns-then-n-eq0-clause-fault g c = λ seen between.
    let (done, left, came) = c.loop-left.invariant in
    let b = between in
    let less : length came.content < c.args.length = omega (arith, came.count, left, c.loop-left-test.true) in
    let none : take c.in-Ok.n c.read.new.buf ≡ [] = ap (λ z. take z c.read.new.buf) c.if-n-eq0.true in
    let consumed : Consumes (g.R.Read.remaining c.args.file.now) (g.R.Read.remaining c.read.new.self) came.content =
    subst (Consumes (g.R.Read.remaining c.args.file.now) (g.R.Read.remaining c.read.new.self)) (ap (λ z. came.content ++ z) none ∙ append-nil came.content) (Consumes-trans _ _ _ came.content (take c.in-Ok.n c.read.new.buf) came.consumed c.in-Ok.ensures.bytes.0) in
    let size : length c.read.new.buf ≡ c.min-room.result = search rules in
    Consumes-whole _ _ came.content (λ rest. IsCutShort (seen ++ (u32_bytes c.args.length ++ rest))) consumed (c.in-Ok.ensures.bytes.1 c.if-n-eq0.true (omega (arith, size, c.min-room.ensures, c.loop-left-test.true)))
    (content_short seen b.blocks c.args.length came.content b.laid b.long c.ranges.length.fits less
    (no_fault_yet g.T.Tally.stands_for c.loop-left.stream (times_of b.blocks) (data_of b.blocks ++ came.content) (came.heard (times_of b.blocks) (data_of b.blocks) b.stands)))

pub returns-in_err-feed-in-Ok-clause-fault : goal.returns-in_err-feed-in-Ok-clause-fault
returns-in_err-feed-in-Ok-clause-fault g c =
    let p = err_from_is_err_and c.from_residual.result c.from_residual.ensures.1 in
    let f = c.in_err-feed-in-Ok.field-0.0 in
    rw (p.1, p.2) (λ seen between.
    let (done, left, came) = c.loop-left.invariant in
    let b = between in
    let new = c.read.new.buf in
    let n = c.in-Ok.n in
    let room = c.min-room.result in
    let size : length new ≡ room = search rules in
    let piece : List ℕ = take n new in
    let fits : length (came.content ++ piece) ≤ c.args.length =
    omega (arith, came.count, left, length-append came.content piece, length-take n new, c.in-Ok.ensures.bound.0, size, c.min-room.ensures) in
    let bad = c.in_err-feed-in-Ok.ensures.fault (times_of b.blocks) (data_of b.blocks ++ came.content) (came.heard (times_of b.blocks) (data_of b.blocks) b.stands) in
    let whole = take-put_mid 0 room c.loop-left.buffer new (length new) (omega arith) (omega arith) in
    let bad' : IsDataFault (data_of b.blocks ++ (came.content ++ piece)) f =
    subst (λ z. IsDataFault z f) (append_assoc (data_of b.blocks) came.content piece) (subst (λ z. IsDataFault ((data_of b.blocks ++ came.content) ++ z) f) (first_part new _ n whole c.in-Ok.ensures.bound.0) bad) in
    of_front _ _ (came.content ++ piece) (λ rest. IsFault (seen ++ (u32_bytes c.args.length ++ rest)) f) (Consumes-trans _ _ _ came.content piece came.consumed c.in-Ok.ensures.bytes.0)
    (λ following. content_fault f seen b.blocks c.args.length (came.content ++ piece) following b.laid b.long c.ranges.length.fits fits bad'))

pub loop-left-preserved : goal.loop-left-preserved
loop-left-preserved g c =
    let (done, left, came) = c.loop-left.invariant in
    let new = c.read.new.buf in
    let n = c.in-Ok.n in
    let room = c.min-room.result in
    let size : length new ≡ room = search rules in
    let piece : List ℕ = take n new in
    let long : length piece ≡ n = omega (arith, length-take n new, c.in-Ok.ensures.bound.0) in
    let whole = take-put_mid 0 room c.loop-left.buffer new (length new) (omega arith) (omega arith) in (
      done + n,
      omega (arith, left, c.in-Ok.ensures.bound.0, size, c.min-room.ensures),
      record {
        content = came.content ++ piece;
        consumed = Consumes-trans _ _ _ came.content piece came.consumed c.in-Ok.ensures.bytes.0;
        count = omega (arith, came.count, long, length-append came.content piece);
        heard = λ times s stands. subst (Stands g.T.Tally.stands_for c.feed.new.self times) (append_assoc s came.content piece)
            (subst (λ z. Stands g.T.Tally.stands_for c.feed.new.self times ((s ++ came.content) ++ z)) (first_part new _ n whole c.in-Ok.ensures.bound.0)
            (c.in_ok-feed-in-Ok.ensures.goes times (s ++ came.content) (came.heard times s stands)));
      },
    )
