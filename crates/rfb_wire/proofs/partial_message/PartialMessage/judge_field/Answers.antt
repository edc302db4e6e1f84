use Rattle.std.proofs.Common.{◌≡◌, ℕ, List, ◌++◌, ◌-◌, ◌+◌, ◌∙◌, sym, ap, refl, length, take, drop, arith}
use Rattle.std.proofs.lemmas.Grind.{common_steps}
use Rattle.std.proofs.lemmas.List.{take_rest, length-drop}
use Rattle.std.proofs.lemmas.Result.{err_from_is_err_and}
use Rattle.client_wire.proofs.Fronts.{unless_memory}
use Rattle.terms.proofs.Sizes.{are_limits}
use Rattle.rfb_wire.specs.Grammar.{message_limit}
use Rattle.rfb_wire.specs.PartialMessage.{resume, start_of, following, NextBegins}
use Rattle.rfb_wire.proofs.Turns.{linked_more, field_faults, turn_long, turn_faults}
use Rattle.rfb_wire.proofs.partial_message.PartialMessage.judge_field.Goals as goal

-- the field of a stage, as the code takes it
field_is : (xs ys : List ℕ) (i j : ℕ) → xs ≡ ys → i ≡ j → take (length xs - i) (drop i xs) ≡ drop j ys
field_is xs ys i j e f = take_rest xs i ∙ rw (e, f) refl

pub returns-in_err-taken-clause-faults : goal.returns-in_err-taken-clause-faults
returns-in_err-taken-clause-faults c =
    let p = err_from_is_err_and c.from_residual.result c.from_residual.ensures.1 in
    let s = c.args.self.now in
    rw (p.1, p.2) (turn_long (message_limit c.args.screen.format) c.args.screen.size.width c.args.screen.size.height s.bytes.items c.args.piece.now s.rectangles.items s.stage c.in_err-taken.field-0.0
    c.requires.field.linked (omega (arith, (are_limits c.args.screen.format).text)) c.requires.field.unfinished c.requires.some c.in_err-taken.ensures.long)

pub returns-in_err-whole-clause-faults : goal.returns-in_err-whole-clause-faults
returns-in_err-whole-clause-faults c =
    let p = err_from_is_err_and c.from_residual-in_err-whole.result c.from_residual-in_err-whole.ensures.1 in
    let s = c.args.self.now in
    let n = c.in_ok-taken.taken in
    let longer = c.take.new.bytes.items in
    let linked = linked_more (message_limit c.args.screen.format) c.args.screen.size.width c.args.screen.size.height s.bytes.items (take n c.args.piece.now) longer s.rectangles.items s.stage
    c.requires.field.linked c.in_ok-taken.ensures.bytes c.in_ok-taken.ensures.short in
    let field = field_is c.deref.result.now longer c.start.result (start_of s.stage) c.deref.ensures.value c.start.ensures in
    let faults = field_faults (message_limit c.args.screen.format) c.args.screen.size.width c.args.screen.size.height longer s.rectangles.items s.stage c.in_err-whole.field-0.0 linked
    (λ more. ap (λ f. resume c.args.screen.size.width c.args.screen.size.height s.stage (f ++ more)) (sym field) ∙ c.in_err-whole.ensures.faults more) in
    rw (p.1, p.2) (turn_faults (message_limit c.args.screen.format) c.args.screen.size.width c.args.screen.size.height n s.bytes.items c.args.piece.now longer c.in_err-whole.field-0.0
    c.in_ok-taken.ensures.bytes c.in_ok-taken.ensures.short (unless_memory _ _ faults))

pub advance-requires : goal.advance-requires
advance-requires c =
    let s = c.args.self.now in
    let n = c.in_ok-taken.taken in
    let longer = c.take.new.bytes.items in
    let linked = linked_more (message_limit c.args.screen.format) c.args.screen.size.width c.args.screen.size.height s.bytes.items (take n c.args.piece.now) longer s.rectangles.items s.stage
    c.requires.field.linked c.in_ok-taken.ensures.bytes c.in_ok-taken.ensures.short in
    let field = field_is c.deref.result.now longer c.start.result (start_of s.stage) c.deref.ensures.value c.start.ensures in
    let end : start_of s.stage + length (drop (start_of s.stage) longer) ≡ length longer = rw length-drop (omega (arith, linked.begun)) in
    let begins : NextBegins (start_of s.stage + length (drop (start_of s.stage) longer)) c.in_ok-whole.whole.next = rw (← field) c.in_ok-whole.ensures.begins in
    record {
      link = λ more.
          linked.link more
          ∙ ap (λ f. following s.rectangles.items (resume c.args.screen.size.width c.args.screen.size.height s.stage (f ++ more))) (sym field)
          ∙ ap (following s.rectangles.items) (c.in_ok-whole.ensures.goes more);
      begins = rw end at begins;
      kind = c.in_ok-whole.ensures.kind longer (sym field) linked.kind;
      short = c.in_ok-taken.ensures.short;
    }

pub returns-then-len-self-clause-ok : goal.returns-then-len-self-clause-ok
returns-then-len-self-clause-ok c = grind (arith, common_steps)

pub returns-clause-ok : goal.returns-clause-ok
returns-clause-ok c = grind (arith, common_steps)
