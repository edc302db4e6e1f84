use Rattle.std.proofs.Common.{refl}
use Rattle.broadcast.proofs.Standing.{next_wanted, whole_from_first}
use Rattle.broadcast.proofs.desk.Desk.next_at.Goals as goal

pub returns-in-Some-clause-step : goal.returns-in-Some-clause-step
returns-in-Some-clause-step g c = λ m.
    let v = c.args.self.now in
    let told = c.hand.ensures in
    let cursor = c.in-Some.cursor in
    let whole = whole_from_first v.head cursor.position c.args.limit v.state.book.committed cursor.fresh c.hand.result told.sized (told.whole refl) in
    next_wanted v.head v.state c.args.number c.args.limit c.hand.result c.hand.new.self.state (c.known.ensures.committed m) whole (told.step m)
