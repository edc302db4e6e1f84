use Rattle.std.proofs.lemmas.Result.{err_from_is_err_and}
use Rattle.httparse.specs.Spans.{span_bytes}
use Rattle.request_head.proofs.head.check.Goals as goal

pub returns-in_err-check_host : goal.returns-in_err-check_host
returns-in_err-check_host c =
    let failed = err_from_is_err_and c.from_residual.result c.from_residual.ensures.1 in
    rw (failed.1, failed.2) (c.in_err-check_host.ensures (span_bytes c.args.head.now c.args.request.now.method))
