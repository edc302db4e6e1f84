use Rattle.std.proofs.Common.{◌++◌, ℕ, List, [], sym, ap, ◌∙◌, arith, append-nil, inl}
use Rattle.std.proofs.KnownBytes.{Consumes-trans, Consumes-whole}
use Rattle.std.proofs.lemmas.List.{take_all, drop_all}
use Rattle.std.proofs.lemmas.Result.{err_from_is_err_and}
use Rattle.fbs_export.specs.Blocks.{is_start, data_of, times_of}
use Rattle.fbs_export.specs.Opening.{opening_at}
use Rattle.fbs_export.specs.Reader.{Started, Went}
use Rattle.fbs_export.specs.Summary.{IsFault, IsCutShort}
use Rattle.fbs_export.specs.Told.{IsTold, Says}
use Rattle.fbs_export.proofs.Laying.{if_some_front, same_lengths}
use Rattle.fbs_export.proofs.RoundTrip.{no_block}
use Rattle.fbs_export.proofs.checking.read_file.Goals as goal

pub loop-init : goal.loop-init
loop-init g c =
    let s : Started (g.R.Read.remaining c.args.file.now) (g.R.Read.remaining c.read_start.new.file) = c.in_ok-read_start.ensures.started in (
      s.bytes,
      s.consumed,
      record {
        blocks = [];
        laid = record {
          start = ap is_start (take_all 12 s.bytes (omega (arith, s.count))) ∙ s.is;
          reads = record { each = tt; stream_is = drop_all 12 s.bytes (omega (arith, s.count)) };
          unfinished = no_block;
        };
        long = omega (arith, s.count);
        stands = c.new-stream.ensures;
      },
    )

pub returns-in_err-more-clause-fault : goal.returns-in_err-more-clause-fault
returns-in_err-more-clause-fault g c =
    let p = err_from_is_err_and c.from_residual-in_err-more.result c.from_residual-in_err-more.ensures.1 in
    let (seen, consumed, between) = c.loop.invariant in
    let f = c.in_err-more.field-0.0 in
    rw (p.1, p.2) (if_some_front _ _ seen (λ bytes. IsFault bytes f) consumed (c.in_err-more.ensures.fault seen between))

pub loop-preserved : goal.loop-preserved
loop-preserved g c =
    let (seen, consumed, between) = c.loop.invariant in
    let w : Went g.T.Tally.stands_for (g.R.Read.remaining c.loop.file) (g.R.Read.remaining c.read_block.new.file) c.read_block.new.stream seen c.in_ok-more.more = c.in_ok-more.ensures.went seen between in
    (seen ++ w.bytes, Consumes-trans _ _ _ seen w.bytes consumed w.consumed, w.between)

pub returns-in_err-told-clause-fault : goal.returns-in_err-told-clause-fault
returns-in_err-told-clause-fault g c =
    let p = err_from_is_err_and c.from_residual-in_err-told.result c.from_residual-in_err-told.ensures.1 in
    let (seen, consumed, between) = c.loop.invariant in
    let w : Went g.T.Tally.stands_for (g.R.Read.remaining c.loop.file) (g.R.Read.remaining c.read_block.new.file) c.read_block.new.stream seen c.in_ok-more.more = c.in_ok-more.ensures.went seen between in
    let b = w.between in
    let all : List ℕ = seen ++ w.bytes in
    let f = c.in_err-told.field-0.0 in
    let cut : IsCutShort all = record {
      blocks = b.blocks;
      tail = [];
      laid = b.laid;
      short = inl (ap opening_at (append-nil (data_of b.blocks)) ∙ c.in_err-told.ensures.fault.1 (times_of b.blocks) (data_of b.blocks) b.stands);
    } in
    rw (p.1, p.2, c.in_err-told.ensures.fault.0) (Consumes-whole _ _ all (λ bytes. IsCutShort bytes) (Consumes-trans _ _ _ seen w.bytes consumed w.consumed) (w.ended c.if-not-more.true) cut)

pub returns-then-not-more-clause-ok : goal.returns-then-not-more-clause-ok
returns-then-not-more-clause-ok g c =
    let (seen, consumed, between) = c.loop.invariant in
    let w : Went g.T.Tally.stands_for (g.R.Read.remaining c.loop.file) (g.R.Read.remaining c.read_block.new.file) c.read_block.new.stream seen c.in_ok-more.more = c.in_ok-more.ensures.went seen between in
    let b = w.between in
    let all : List ℕ = seen ++ w.bytes in
    let t : IsTold g.T.Tally.stands_for (data_of b.blocks) (times_of b.blocks) c.in_ok-told.told = c.in_ok-told.ensures.ok (times_of b.blocks) (data_of b.blocks) (sym (same_lengths b.blocks)) b.stands in
    Consumes-whole _ _ all (λ bytes. Says g.T.Tally.stands_for bytes c.in_ok-told.told) (Consumes-trans _ _ _ seen w.bytes consumed w.consumed) (w.ended c.if-not-more.true)
    (record { messages = t.messages; tally = t.tally; is = record { blocks = b.blocks; laid = b.laid; tells = t.tells } })
