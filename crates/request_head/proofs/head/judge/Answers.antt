use Rattle.std.proofs.Common.{◌≡◌, ◌<◌, ◌∙◌, drop, arith, inl}
use Rattle.std.specs.Prelude.{slice_index}
use Rattle.request_head.proofs.Whole.{other_target, taken_as, refused_as, bytes_refused}
use Rattle.request_head.proofs.head.judge.Goals as goal

pub returns-then-not-is_ascii : goal.returns-then-not-is_ascii
returns-then-not-is_ascii c =
    let at = c.requires.covers.1 in
    let other = c.if-not-is_ascii.ensures.cases in
    let same : c.of.result.now ≡ c.requires.covers.0.target = c.of.ensures ∙ at.path in
    inl (other_target c.args.head.now c.requires.covers.0 (drop c.args.request.len c.args.head.now) at.reads (λ ascii.
    let small : slice_index c.of.result.now other.0 < 128 = rw same (ascii other.0) in
    omega (arith, small, other.1)))

pub returns-in-Err : goal.returns-in-Err
returns-in-Err c =
    let head = c.requires.covers.0 in
    let at = c.requires.covers.1 in
    let same : c.of.result.now ≡ head.target = c.of.ensures ∙ at.path in
    bytes_refused c.args.names.now c.args.head.now head (drop c.args.request.len c.args.head.now) (at.reads, λ i. rw same at c.if-not-is_ascii.ensures.cases i) c.in-Err.fault
    (refused_as c.args.names.now c.args.head.now c.args.fields.now c.args.request head at c.in-Err.fault c.in-Err.ensures)

pub returns-in-Ok : goal.returns-in-Ok
returns-in-Ok c =
    let head = c.requires.covers.0 in
    let at = c.requires.covers.1 in
    let same : c.of.result.now ≡ head.target = c.of.ensures ∙ at.path in (
      head,
      record {
        covers = at;
        is_within = c.requires.within;
        is_sound = (drop c.args.request.len c.args.head.now, (at.reads, λ i. rw same at c.if-not-is_ascii.ensures.cases i));
        is_taken = taken_as c.args.names.now c.args.head.now c.args.fields.now c.args.request head at c.in-Ok.ensures;
      },
    )
