use Rattle.std.proofs.Common.{◌≡◌, ◌+◌, ◌-◌, ◌++◌, length, take, drop, refl, sym, ap, ◌∙◌, append_assoc, length-append, arith}
use Rattle.std.proofs.lemmas.Grind.{common_steps}
use Rattle.std.proofs.lemmas.List.{take_rest, take-append-drop}
use Rattle.std.proofs.Math.Seq.{take-append-add}
use Rattle.host_session.specs.Handshake.{first_requests}
use Rattle.host_session.specs.Take.{Goes, Whole, told_at}
use Rattle.host_session.proofs.Turns.{leads_more, leads_end}
use Rattle.host_session.proofs.handshake.Handshake.take.Goals as goal

pub turns-preserved : goal.turns-preserved
turns-preserved c =
    let i = c.turns.invariant in
    let n = c.in-Goes.taken in
    let left = c.turns.rest.now in
    let t : Goes c.args.expected c.turns.self c.take_some.new.self n left c.turns.due.items c.take_some.new.due.items = rw c.in-Goes.is at c.in_ok-take_some.ensures.taking in
    let piece : c.args.piece.now ≡ (i.front ++ take n left) ++ drop n left =
    i.piece ∙ rw (append_assoc, take-append-drop) refl in
    record {
      within = t.within;
      front = i.front ++ take n left;
      piece = piece ∙ ap (λ z. (i.front ++ take n left) ++ z) (sym (take_rest left n));
      leads = leads_more c.args.expected c.args.self.now.position c.turns.self.position c.take_some.new.self.position c.args.self.now.kept.items c.turns.self.kept.items c.take_some.new.self.kept.items
          i.front (take n left) c.args.due.now.items c.turns.due.items c.take_some.new.due.items i.leads t.leads;
    }

pub returns-in-Whole-clause-taken : goal.returns-in-Whole-clause-taken
returns-in-Whole-clause-taken c =
    let i = c.turns.invariant in
    let n = c.in-Whole.taken in
    let left = c.turns.rest.now in
    let t : Whole c.args.expected c.turns.self c.take_some.new.self n c.in-Whole.size.width c.in-Whole.size.height left c.turns.due.items c.take_some.new.due.items = rw c.in-Whole.is at c.in_ok-take_some.ensures.taking in
    let at : length c.args.piece.now - length left + n ≡ length i.front + n = omega (arith, ap length i.piece, length-append i.front left) in
    let front : take (length c.args.piece.now - length left + n) c.args.piece.now ≡ i.front ++ take n left =
    rw at (ap (take (length i.front + n)) i.piece ∙ take-append-add i.front left n) in
    record {
      some = omega (arith, t.some, ap length i.piece, length-append i.front left);
      ends = rw front (leads_end c.args.expected c.args.self.now.position c.turns.self.position c.args.self.now.kept.items c.turns.self.kept.items
          i.front (take n left) c.args.due.now.items c.turns.due.items c.take_some.new.due.items (first_requests c.in-Whole.size.width c.in-Whole.size.height)
          (told_at c.in-Whole.size.width c.in-Whole.size.height c.take_some.new.self.kept.items) i.leads t.ends);
    }

pub returns-in_err-take_some-clause-faults : goal.returns-in_err-take_some-clause-faults
returns-in_err-take_some-clause-faults c = grind (arith, common_steps)

pub returns-in-Waits-clause-taken : goal.returns-in-Waits-clause-taken
returns-in-Waits-clause-taken c = grind (arith, common_steps)

pub overflow_sub-result : goal.overflow_sub-result
overflow_sub-result c = grind (arith, common_steps)
