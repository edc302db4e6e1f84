use Rattle.std.proofs.Common.{◌≡◌, ℕ, List, ◌++◌, ◌-◌, ◌+◌, ◌∙◌, [], sym, ap, refl, length, take, drop}
use Rattle.std.proofs.lemmas.List.{take_rest, append-nil}
use Rattle.std.proofs.lemmas.Result.{err_from_is_err_and}
use Rattle.terms.specs.Reading.{Got, Bad}
use Rattle.client_wire.specs.Grammar.{message_at}
use Rattle.client_wire.specs.PartialMessage.{resume, start_of, wants_of, passed_in, position_at, follow, BeginsAt}
use Rattle.client_wire.proofs.Fronts.{unless_memory_map}
use Rattle.client_wire.proofs.Turns.{begins_there, passed_there, kept_moves, given_moves}
use Rattle.client_wire.proofs.partial_message.PartialMessage.advance.Goals as goal

-- the field of a stage, as the code takes it
field_is : (xs ys : List ℕ) (i j : ℕ) → xs ≡ ys → i ≡ j → take (length xs - i) (drop i xs) ≡ drop j ys
field_is xs ys i j e f = take_rest xs i ∙ rw (e, f) refl

pub returns-in_err-position-clause-faults : goal.returns-in_err-position-clause-faults
returns-in_err-position-clause-faults c =
    let p = err_from_is_err_and c.from_residual.result c.from_residual.ensures.1 in
    let s = c.args.self.now in
    let g = c.in_err-position.field-0.0 in
    let f : List ℕ = take (length c.deref.result.now - c.start.result) (drop c.start.result c.deref.result.now) in
    let field : f ≡ drop (start_of c.args.stage) s.bytes.items = field_is c.deref.result.now s.bytes.items c.start.result (start_of c.args.stage) c.deref.ensures.value c.start.ensures.value in
    rw (p.1, p.2) (unless_memory_map g ((more : List ℕ) → resume c.args.stage (f ++ more) ≡ Bad g) ((more : List ℕ) → message_at (s.bytes.items ++ more) ≡ Bad g)
    (λ bad more. c.requires.linked.link more ∙ ap (λ z. resume c.args.stage (z ++ more)) (sym field) ∙ bad more)
    c.in_err-position.ensures.faults)

pub returns-in-Goes-clause-at : goal.returns-in-Goes-clause-at
returns-in-Goes-clause-at c =
    let s = c.args.self.now in
    let field = field_is c.deref.result.now s.bytes.items c.start.result (start_of c.args.stage) c.deref.ensures.value c.start.ensures.value in
    let goes : (more : List ℕ) → message_at (s.bytes.items ++ more) ≡ position_at c.in-Goes.position more = λ more.
    c.requires.linked.link more ∙ ap (λ f. resume c.args.stage (f ++ more)) (sym field) ∙ c.in_ok-position.ensures.goes more ∙ ap (λ t. follow t more) c.in-Goes.is in
    let begins : BeginsAt (start_of c.args.stage + wants_of c.args.stage) c.in-Goes.position = rw c.in-Goes.is at c.in_ok-position.ensures.begins in
    begins_there s.bytes.items (start_of c.args.stage + wants_of c.args.stage) c.in-Goes.position goes begins c.requires.whole

pub returns-in-Goes-clause-moves : goal.returns-in-Goes-clause-moves
returns-in-Goes-clause-moves c =
    let s = c.args.self.now in
    let begins : BeginsAt (start_of c.args.stage + wants_of c.args.stage) c.in-Goes.position = rw c.in-Goes.is at c.in_ok-position.ensures.begins in
    kept_moves s.bytes.items (passed_in c.in-Goes.position) c.args.out.now.items s.bytes.items refl
    (passed_there (start_of c.args.stage + wants_of c.args.stage) c.in-Goes.position begins)

pub returns-in_ok-give-in-Whole-clause-moves : goal.returns-in_ok-give-in-Whole-clause-moves
returns-in_ok-give-in-Whole-clause-moves c =
    let s = c.args.self.now in
    let field = field_is c.deref.result.now s.bytes.items c.start.result (start_of c.args.stage) c.deref.ensures.value c.start.ensures.value in
    let whole : message_at s.bytes.items ≡ Got c.in-Whole.message [] =
    ap message_at (sym (append-nil s.bytes.items)) ∙ c.requires.linked.link []
    ∙ ap (λ f. resume c.args.stage (f ++ [])) (sym field) ∙ c.in_ok-position.ensures.goes [] ∙ ap (λ t. follow t []) c.in-Whole.is in
    given_moves c.give.new.self.bytes.items (passed_in c.give.new.self.position) c.args.out.now.items c.give.new.out.items s.bytes.items c.in-Whole.message
    whole c.in_ok-give-in-Whole.ensures.ok c.in_ok-give-in-Whole.ensures.none c.in_ok-give-in-Whole.ensures.passed
