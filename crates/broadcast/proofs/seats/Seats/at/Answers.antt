use Rattle.std.proofs.Common.{◌≡◌, sym, arith}
use Rattle.std.specs.Prelude.{None, slice_index_or}
use Rattle.broadcast.specs.Seats.{seat_at}
use Rattle.broadcast.proofs.Seating.{index_is, none_past}
use Rattle.broadcast.proofs.seats.Seats.at.Goals as goal

pub returns-then-number-len : goal.returns-then-number-len
returns-then-number-len c =
    let seats = c.self.inside.cursors.items in
    let here : slice_index_or seats c.args.number None ≡ seat_at seats c.args.number = index_is seats c.args.number in
    let same : c.deref.result.now ≡ seats = c.deref.ensures.0 in
    rw (← c.self.view_is) (rw same here)

pub returns-else-number-len : goal.returns-else-number-len
returns-else-number-len c =
    let seats = c.self.inside.cursors.items in
    rw (← c.self.view_is) (sym (none_past seats c.args.number (omega (arith, c.if-number-len.false, c.len.ensures.value))))
