use Rattle.std.proofs.Common.{arith, sym, ap, ◌∙◌}
use Rattle.book_tokens.specs.Numbers.{giver_next, given}
use Rattle.book_tokens.proofs.Once.{gives_as}
use Rattle.book_tokens.proofs.numbers.NumberSource.give.Goals as goal

pub split_seat-seat-requires : goal.split_seat-seat-requires
split_seat-seat-requires g c =
    let i = c.self.invariant in
    let v = c.self.inside.seat.me.0 in
    (i.2 ∙ sym i.0, omega (arith, i.1), gives_as c.self.inside.seat.id v.next v (giver_next v) (given v) i.3 (ap giver_next i.3) (ap given i.3))
