use Rattle.std.proofs.Common.{◌≡◌, ◌++◌, ◌∙◌, sym, ap, refl, take, drop, append_assoc, subst, length, length-append, arith}
use Rattle.std.proofs.lemmas.Grind.{common_steps}
use Rattle.std.proofs.lemmas.List.{take_rest, take-append-drop, length-take-le}
use Rattle.std.proofs.lemmas.Result.{err_from_is_err_and}
use Rattle.client_wire.specs.Grammar.{message_at}
use Rattle.client_wire.specs.PartialMessage.{passed_in}
use Rattle.client_wire.specs.Stream.{Stops, itself}
use Rattle.client_wire.proofs.Streams.{moves_more, moves_stops}
use Rattle.client_wire.proofs.Turns.{takes_both}
use Rattle.client_wire.proofs.partial_message.PartialMessage.read.Goals as goal

pub returns-in_err-taken-clause-faults : goal.returns-in_err-taken-clause-faults
returns-in_err-taken-clause-faults c =
    let p = err_from_is_err_and c.from_residual.result c.from_residual.ensures.1 in
    let i = c.loop-rest.invariant in
    let left = c.loop-rest.rest.now in
    let f = c.in_err-taken.field-0.0 in
    rw (p.1, p.2) (λ rest stands.
    let m = i.moves rest stands in
    let stops = moves_stops message_at itself c.args.out.now.items c.loop-rest.out.items c.take_some.new.out.items rest i.front left
    c.loop-rest.self.bytes.items (passed_in c.loop-rest.self.position) f m c.in_err-taken.ensures.err (c.in_err-taken.ensures.faults m.rest m.stands) in
    subst (λ z. Stops message_at itself f c.args.out.now.items c.take_some.new.out.items (rest ++ z)) (sym i.piece) stops)

pub loop-rest-preserved : goal.loop-rest-preserved
loop-rest-preserved c =
    let i = c.loop-rest.invariant in
    let n = c.in_ok-taken.taken in
    let left = c.loop-rest.rest.now in
    let piece : c.args.piece.now ≡ (i.front ++ take n left) ++ drop n left =
    i.piece ∙ rw (append_assoc, take-append-drop) refl in
    record {
      at = c.in_ok-taken.ensures.at;
      front = i.front ++ take n left;
      takes = takes_both (length i.front) n c.args.self.now c.loop-rest.self c.take_some.new.self (length (i.front ++ take n left))
          (rw (length-append, length-take-le n left c.in_ok-taken.ensures.taken.1) refl) i.takes c.in_ok-taken.ensures.takes;
      piece = piece ∙ ap (λ z. (i.front ++ take n left) ++ z) (sym (take_rest left n));
      moves = λ rest stands.
          let m = i.moves rest stands in
          moves_more message_at itself c.args.out.now.items c.loop-rest.out.items c.take_some.new.out.items rest i.front (take n left)
          c.loop-rest.self.bytes.items c.take_some.new.self.bytes.items (passed_in c.loop-rest.self.position) (passed_in c.take_some.new.self.position)
          m (c.in_ok-taken.ensures.moves m.rest m.stands);
    }

pub returns-clause-moves : goal.returns-clause-moves
returns-clause-moves c = grind (arith, common_steps)

pub returns-clause-takes : goal.returns-clause-takes
returns-clause-takes c = grind (arith, common_steps)
