use Rattle.std.proofs.Common.{◌≡◌, [], ◌++◌, length, eqb-true, ◌∙◌, sym, ap, refl, take, drop, subst, append_assoc, arith}
use Rattle.std.proofs.lemmas.Grind.{common_steps}
use Rattle.std.proofs.lemmas.List.{append-nil, take_rest, take-append-drop, length-append, length-take-le}
use Rattle.std.proofs.lemmas.Result.{err_from_is_err_and}
use Rattle.client_wire.specs.Stream.{Moves, Stops}
use Rattle.client_wire.proofs.Streams.{empty_list, moves_more, moves_stops}
use Rattle.rfb_wire.specs.Grammar.{message_at, message_limit}
use Rattle.rfb_wire.proofs.Taken.{takes_both}
use Rattle.rfb_wire.specs.PartialMessage.{passed_in}
use Rattle.rfb_wire.specs.Stream.{given}
use Rattle.rfb_wire.proofs.partial_message.PartialMessage.read.Goals as goal

pub returns-in_err-taken-clause-faults : goal.returns-in_err-taken-clause-faults
returns-in_err-taken-clause-faults c =
    let p = err_from_is_err_and c.from_residual.result c.from_residual.ensures.1 in
    let i = c.loop-rest.invariant in
    let read = message_at (message_limit c.args.screen.format) c.args.screen.size.width c.args.screen.size.height in
    let give = given c.args.screen.format c.args.screen.size.width c.args.screen.size.height in
    let f = c.in_err-taken.field-0.0 in
    let s = c.loop-rest.self in
    rw (p.1, p.2) (λ rest stands.
    let m = i.moves rest stands in
    subst (λ z. Stops read give f c.args.out.now.items c.take_some.new.out.items (rest ++ z)) (sym i.piece)
    (moves_stops read give c.args.out.now.items c.loop-rest.out.items c.take_some.new.out.items rest i.front c.loop-rest.rest.now s.bytes.items (passed_in s.over) f
    m c.in_err-taken.ensures.err (c.in_err-taken.ensures.faults m.rest m.stands)))

pub loop-rest-preserved : goal.loop-rest-preserved
loop-rest-preserved c =
    let i = c.loop-rest.invariant in
    let n = c.in_ok-taken.taken in
    let left = c.loop-rest.rest.now in
    let s = c.loop-rest.self in
    let t = c.take_some.new.self in
    let piece : c.args.piece.now ≡ (i.front ++ take n left) ++ drop n left =
    i.piece ∙ rw (append_assoc, take-append-drop) refl in
    record {
      at = c.in_ok-taken.ensures.at;
      front = i.front ++ take n left;
      takes = takes_both (length i.front) n c.args.self.now s t (length (i.front ++ take n left))
          (rw (length-append, length-take-le n left c.in_ok-taken.ensures.taken.1) refl) i.takes c.in_ok-taken.ensures.takes;
      piece = piece ∙ ap (λ z. (i.front ++ take n left) ++ z) (sym (take_rest left n));
      moves = λ rest stands.
          let m = i.moves rest stands in
          moves_more (message_at (message_limit c.args.screen.format) c.args.screen.size.width c.args.screen.size.height) (given c.args.screen.format c.args.screen.size.width c.args.screen.size.height)
          c.args.out.now.items c.loop-rest.out.items c.take_some.new.out.items rest i.front (take n left) s.bytes.items t.bytes.items (passed_in s.over) (passed_in t.over)
          m (c.in_ok-taken.ensures.moves m.rest m.stands);
    }

pub returns-clause-moves : goal.returns-clause-moves
returns-clause-moves c = λ rest stands.
    let i = c.loop-rest.invariant in
    let s = c.loop-rest.self in
    let empty : length c.loop-rest.rest.now ≡ 0 = eqb-true (length c.loop-rest.rest.now) 0 (sym c.loop-rest-test.ensures) in
    let none : c.loop-rest.rest.now ≡ [] = empty_list c.loop-rest.rest.now empty in
    let all : i.front ≡ c.args.piece.now = sym (i.piece ∙ ap (λ z. i.front ++ z) none ∙ append-nil i.front) in
    subst (λ z. Moves (message_at (message_limit c.args.screen.format) c.args.screen.size.width c.args.screen.size.height) (given c.args.screen.format c.args.screen.size.width c.args.screen.size.height) s.bytes.items (passed_in s.over)
    c.args.out.now.items c.loop-rest.out.items (rest ++ z)) all (i.moves rest stands)

pub returns-clause-takes : goal.returns-clause-takes
returns-clause-takes c = grind (arith, common_steps)
