use Rattle.std.proofs.Common.{◌≡◌, ◌≤◌, length, arith}
use Rattle.flusher_core.specs.State.{committed_of}
use Rattle.shared_book.proofs.Standing.{read_back, stands_back}
use Rattle.shared_book.proofs.closed.Closed.holds.Goals as goal

pub returns-clause-exact : goal.returns-clause-exact
returns-clause-exact g c = λ m.
    let b = c.self.inside.book in
    let slice = c.args.slice.now in
    let read = c.in_ok-read.read in
    let counted = c.known.ensures.committed m in
    let here : b.state.committed ≡ length (committed_of b.state) = rw (← c.self.view_is) at counted in
    let within : slice.first ≤ length (committed_of b.state) = omega (arith, here, c.committed.ensures, c.if-slice-committed.false) in
    rw (← c.self.view_is) (
      (λ same. stands_back b.head (committed_of b.state) slice read _ _ within (omega (arith, c.len-count.ensures, slice.messages.ok.0)) c.is_some.ensures (c.in_ok-read.ensures.slice m) (c.same.ensures.0 same)),
      (λ stands. c.same.ensures.1 (read_back b.head (committed_of b.state) slice read _ _ stands (omega (arith, c.len-count.ensures, slice.messages.ok.0)) c.is_some.ensures (c.in_ok-read.ensures.slice m))),
    )
