use Rattle.std.proofs.Common.{replicate, ◌∷◌, ◌<◌, ◌+◌, ◌++◌, ◌^◌, ℕ, List, [], length, arith, rules, length-append}
use Rattle.std.proofs.KnownBytes.{Consumes-trans}
use Rattle.std.proofs.lemmas.Result.{err_from_is_err_and}
use Rattle.terms.specs.Number.{u32_bytes}
use Rattle.client_wire.specs.Stream.{Part}
use Rattle.fbs_export.specs.Blocks.{Block, data_of, times_of, padding_length}
use Rattle.fbs_export.specs.Reader.{Came, IsTimed, Stands}
use Rattle.fbs_export.specs.Summary.{IsFault}
use Rattle.fbs_export.proofs.Hearing.{no_fault_yet}
use Rattle.fbs_export.proofs.Laying.{if_some_front, length_short, padding_short, block_part, block_whole, laid_block, data_more, times_more, same_lengths, stopped}
use Rattle.fbs_export.proofs.checking.read_block.Goals as goal

pub returns-in_err-length-clause-fault : goal.returns-in_err-length-clause-fault
returns-in_err-length-clause-fault g c =
    let p = err_from_is_err_and c.from_residual.result c.from_residual.ensures.1 in
    rw (p.1, p.2) (λ seen b.
    stopped _ 1 4 c.in_err-length.field-0.0 (λ rest. seen ++ rest) c.in_err-length.ensures.fault (λ tail some few.
    length_short seen tail b.blocks b.laid b.long few some (no_fault_yet g.T.Tally.stands_for c.args.stream.now (times_of b.blocks) (data_of b.blocks) b.stands)))

pub returns-in_err-read_content-clause-fault : goal.returns-in_err-read_content-clause-fault
returns-in_err-read_content-clause-fault g c =
    let p = err_from_is_err_and c.from_residual-in_err-read_content.result c.from_residual-in_err-read_content.ensures.1 in
    let f = c.in_err-read_content.field-0.0 in
    rw (p.1, p.2) (λ seen b.
    if_some_front _ _ (u32_bytes c.in-Some.length) (λ rest. IsFault (seen ++ rest) f) (rw c.in-Some.is at c.in_ok-length.ensures.some) (c.in_err-read_content.ensures.fault seen b))

pub returns-in_err-time-clause-fault : goal.returns-in_err-time-clause-fault
returns-in_err-time-clause-fault g c =
    let p = err_from_is_err_and c.from_residual-in_err-time.result c.from_residual-in_err-time.ensures.1 in
    let f = c.in_err-time.field-0.0 in
    let n : ℕ = c.in-Some.length in
    rw (p.1, p.2) (λ seen b.
    let came : Came g.T.Tally.stands_for (g.R.Read.remaining c.read_length.new.file) (g.R.Read.remaining c.read_content.new.file) c.args.stream.now c.read_content.new.stream n = c.in_ok-read_content.ensures.came in
    let small : n < 2 ^ 32 = search rules in
    if_some_front _ _ (u32_bytes n) (λ rest. IsFault (seen ++ rest) f) (rw c.in-Some.is at c.in_ok-length.ensures.some)
    (if_some_front _ _ came.content (λ rest. IsFault (seen ++ (u32_bytes n ++ rest)) f) came.consumed
    (stopped _ 0 (padding_length n + 4) f (λ rest. seen ++ (u32_bytes n ++ (came.content ++ rest))) c.in_err-time.ensures.fault (λ some any few.
    padding_short seen b.blocks n came.content some b.laid b.long small came.count few
    (no_fault_yet g.T.Tally.stands_for c.read_content.new.stream (times_of b.blocks) (data_of b.blocks ++ came.content) (came.heard (times_of b.blocks) (data_of b.blocks) b.stands))))))

pub returns-clause-went : goal.returns-clause-went
returns-clause-went g c = λ seen b.
    let n : ℕ = c.in-Some.length in
    let small : n < 2 ^ 32 = search rules in
    let came : Came g.T.Tally.stands_for (g.R.Read.remaining c.read_length.new.file) (g.R.Read.remaining c.read_content.new.file) c.args.stream.now c.read_content.new.stream n = c.in_ok-read_content.ensures.came in
    let t : ℕ = c.in_ok-time.time in
    let timed : IsTimed (g.R.Read.remaining c.read_content.new.file) (g.R.Read.remaining c.read_time.new.file) n t = c.in_ok-time.ensures.timed in
    let last : List ℕ = timed.bytes in
    let p : Part Block = block_part n came.content last in
    let stands : Stands g.T.Tally.stands_for c.end_block.new.self (times_of b.blocks ++ replicate (length came.content) t) (data_of b.blocks ++ came.content) =
    c.in_ok-end_block.ensures (times_of b.blocks) (data_of b.blocks ++ came.content) (length came.content)
    (omega (arith, length-append (data_of b.blocks) came.content, same_lengths b.blocks)) (came.heard (times_of b.blocks) (data_of b.blocks) b.stands) in
    record {
      bytes = u32_bytes n ++ (came.content ++ last);
      consumed = Consumes-trans _ _ _ (u32_bytes n) (came.content ++ last) (rw c.in-Some.is at c.in_ok-length.ensures.some) (Consumes-trans _ _ _ came.content last came.consumed timed.consumed);
      between = record {
        blocks = b.blocks ++ p ∷ [];
        laid = laid_block seen b.blocks p b.laid b.long (block_whole n came.content last small came.count timed.count);
        long = omega (arith, length-append seen (u32_bytes n ++ (came.content ++ last)), b.long);
        stands = rw (data_more b.blocks p, times_more b.blocks p, ← timed.is) stands;
      };
      ended = λ e. absurd (cc);
    }
