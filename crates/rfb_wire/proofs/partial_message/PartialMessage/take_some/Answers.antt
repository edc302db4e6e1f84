use Rattle.std.proofs.Common.{◌≡◌, [], ◌∷◌, ◌++◌, ◌∙◌, sym, ap, take, subst, refl, arith}
use Rattle.std.proofs.lemmas.Grind.{common_steps}
use Rattle.std.proofs.lemmas.List.{length-take-le}
use Rattle.std.proofs.lemmas.Result.{err_from_is_err_and}
use Rattle.client_wire.specs.Stream.{StandsFor, Moves}
use Rattle.rfb_wire.specs.Host.{host_of}
use Rattle.rfb_wire.specs.PartialMessage.{IsInField, passed_in}
use Rattle.rfb_wire.proofs.Turns.{turn_long, whole_recorded}
use Rattle.client_wire.proofs.Streams.{gives_one, stands_kept, stands_whole}
use Rattle.rfb_wire.proofs.Over.{kept_stands, in_field}
use Rattle.terms.proofs.Sizes.{are_limits}
use Rattle.rfb_wire.specs.Grammar.{message_at, Recorded, message_limit}
use Rattle.rfb_wire.specs.Stream.{given}
use Rattle.rfb_wire.proofs.partial_message.PartialMessage.take_some.Goals as goal

pub returns-in_err-taken-clause-faults : goal.returns-in_err-taken-clause-faults
returns-in_err-taken-clause-faults c =
    let p = err_from_is_err_and c.from_residual-in_err-taken.result c.from_residual-in_err-taken.ensures.1 in
    let s = c.args.self.now in
    rw (p.1, p.2) (λ rest stands.
    let same = stands_kept s.bytes.items (passed_in s.over) rest (ap passed_in c.in_default.is) stands in
    rw same c.in_err-taken.ensures.faults)

pub returns-in_err-kept-clause-faults : goal.returns-in_err-kept-clause-faults
returns-in_err-kept-clause-faults c =
    let p = err_from_is_err_and c.from_residual.result c.from_residual.ensures.1 in
    let s = c.args.self.now in
    let at : IsInField (message_limit c.args.screen.format) c.args.screen.size.width c.args.screen.size.height s = in_field (message_limit c.args.screen.format) c.args.screen.size.width c.args.screen.size.height s c.in_default.is c.requires.at in
    rw (p.1, p.2) (λ rest stands.
    let same = stands_kept s.bytes.items (passed_in s.over) rest (ap passed_in c.in_default.is) stands in
    rw same (turn_long (message_limit c.args.screen.format) c.args.screen.size.width c.args.screen.size.height s.bytes.items c.args.piece.now s.rectangles.items s.stage c.in_err-kept.field-0.0
    at.linked (omega (arith, (are_limits c.args.screen.format).text)) at.unfinished c.requires.some c.in_err-kept.ensures.long))

pub give-requires : goal.give-requires
give-requires c =
    let s = c.judge.new.self in
    let whole = rw c.in-Whole.is at c.in_ok-taken.ensures.ok.goes in
    whole_recorded c.args.screen.format c.args.screen.size.width c.args.screen.size.height s.bytes.items s.bytes.items s.rectangles.items refl c.in_ok-taken.ensures.ok.short whole

pub returns-in-Field-clause-moves : goal.returns-in-Field-clause-moves
returns-in-Field-clause-moves c = λ rest stands.
    let s = c.args.self.now in
    let t = c.judge.new.self in
    let piece = take c.in_ok-taken.taken c.args.piece.now in
    let same = stands_kept s.bytes.items (passed_in s.over) rest (ap passed_in c.in_default.is) stands in
    kept_stands c.args.screen.format c.args.screen.size.width c.args.screen.size.height t.bytes.items (passed_in t.over) c.args.out.now.items (rest ++ piece)
    (ap (λ z. z ++ piece) same ∙ sym c.in_ok-taken.ensures.ok.bytes) (ap passed_in (c.in_ok-taken.ensures.ok.over ∙ c.in_default.is))

pub returns-in_ok-give-in-Whole-clause-moves : goal.returns-in_ok-give-in-Whole-clause-moves
returns-in_ok-give-in-Whole-clause-moves c = λ rest stands.
    let s = c.args.self.now in
    let t = c.judge.new.self in
    let piece = take c.in_ok-taken.taken c.args.piece.now in
    let kept = stands_kept s.bytes.items (passed_in s.over) rest (ap passed_in c.in_default.is) stands in
    let whole = rw c.in-Whole.is at c.in_ok-taken.ensures.ok.goes in
    let rectangles = t.rectangles.items in
    let recorded = whole_recorded c.args.screen.format c.args.screen.size.width c.args.screen.size.height t.bytes.items t.bytes.items rectangles refl c.in_ok-taken.ensures.ok.short whole in
    let stream = rest ++ piece in
    let is : stream ≡ t.bytes.items = ap (λ z. z ++ piece) kept ∙ sym c.in_ok-taken.ensures.ok.bytes in
    record {
      rest = [];
      gives = gives_one (message_at (message_limit c.args.screen.format) c.args.screen.size.width c.args.screen.size.height) (given c.args.screen.format c.args.screen.size.width c.args.screen.size.height) c.args.out.now.items c.give.new.out.items
          (Recorded rectangles) stream (ap (message_at (message_limit c.args.screen.format) c.args.screen.size.width c.args.screen.size.height) is ∙ recorded)
          (c.in_ok-give-in-Whole.ensures.ok ∙ ap (λ z. c.args.out.now.items ++ host_of c.args.screen.format c.args.screen.size.width c.args.screen.size.height z rectangles ∷ []) (sym is));
      stands = rw (c.in_ok-give-in-Whole.ensures.none, c.in_ok-give-in-Whole.ensures.over) (stands_whole []);
    }

pub returns-in-Some-clause-moves : goal.returns-in-Some-clause-moves
returns-in-Some-clause-moves c = λ rest stands.
    let s = c.args.self.now in
    let n = c.pass.result in
    let over : StandsFor s.bytes.items c.in-Some.over.passed rest = subst (λ p. StandsFor s.bytes.items p rest) (ap passed_in c.in-Some.is) stands in
    c.pass.ensures.moves c.args.out.now.items rest (take n c.args.piece.now) over (length-take-le n c.args.piece.now c.pass.ensures.taken.1)

pub returns-in-ReadOver-clause-moves : goal.returns-in-ReadOver-clause-moves
returns-in-ReadOver-clause-moves c = λ rest stands.
    let s = c.args.self.now in
    let t = c.read_over.new.self in
    let piece = take c.in_ok-taken.taken c.args.piece.now in
    let kept = stands_kept s.bytes.items (passed_in s.over) rest (ap passed_in c.in_default.is) stands in
    let is : c.judge.new.self.bytes.items ≡ rest ++ piece = c.in_ok-taken.ensures.ok.bytes ∙ ap (λ z. z ++ piece) (sym kept) in
    subst (λ z. Moves (message_at (message_limit c.args.screen.format) c.args.screen.size.width c.args.screen.size.height) (given c.args.screen.format c.args.screen.size.width c.args.screen.size.height) t.bytes.items (passed_in t.over) c.args.out.now.items c.args.out.now.items z)
    is (c.read_over.ensures.moves c.args.out.now.items)

pub returns-then-piece-self-clause-at : goal.returns-then-piece-self-clause-at
returns-then-piece-self-clause-at c = grind (arith, common_steps)

pub returns-then-piece-self-clause-moves : goal.returns-then-piece-self-clause-moves
returns-then-piece-self-clause-moves c = grind (arith, common_steps)

pub returns-then-piece-self-clause-takes : goal.returns-then-piece-self-clause-takes
returns-then-piece-self-clause-takes c = grind (arith, common_steps)

pub read_over-requires-clause-head : goal.read_over-requires-clause-head
read_over-requires-clause-head c = grind (arith, common_steps)
