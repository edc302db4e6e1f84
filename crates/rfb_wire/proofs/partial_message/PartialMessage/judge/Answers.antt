use Rattle.std.proofs.Common.{◌≡◌, ◌++◌, ◌≤◌, take, length, ap, ◌∙◌, arith, refl}
use Rattle.std.proofs.lemmas.Grind.{common_steps}
use Rattle.std.proofs.lemmas.List.{length-append, length-take}
use Rattle.std.proofs.lemmas.Result.{err_from_is_err_and}
use Rattle.client_wire.proofs.Fronts.{unless_memory}
use Rattle.rfb_wire.specs.Grammar.{message_limit}
use Rattle.rfb_wire.specs.PartialMessage.{start_of}
use Rattle.rfb_wire.proofs.Turns.{run_faults, turn_faults}
use Rattle.rfb_wire.proofs.partial_message.PartialMessage.judge.Goals as goal

pub returns-in_err-taken-clause-faults : goal.returns-in_err-taken-clause-faults
returns-in_err-taken-clause-faults c =
    let p = err_from_is_err_and c.from_residual.result c.from_residual.ensures.1 in
    let s = c.args.self.now in
    let at_end : c.in-Data.at ≡ length s.bytes.items = omega arith in
    let begun : start_of s.stage ≡ length s.bytes.items = ap start_of c.in-Data.is ∙ at_end in
    let front = take c.min.result c.args.piece.now in
    let short : length (s.bytes.items ++ front) ≤ message_limit c.args.screen.format = rw (length-append s.bytes.items front, length-take c.min.result c.args.piece.now) (omega arith) in
    rw (p.1, p.2) (turn_faults (message_limit c.args.screen.format) c.args.screen.size.width c.args.screen.size.height c.min.result s.bytes.items c.args.piece.now (s.bytes.items ++ front) c.in_err-taken.field-0.0
    refl short (unless_memory _ _ (run_faults (message_limit c.args.screen.format) c.args.screen.size.width c.args.screen.size.height s.bytes.items front s.rectangles.items s.stage c.in_err-taken.field-0.0
    c.requires.field.linked begun (rw (← c.in-Data.is) at c.in_err-taken.ensures.faults))))

pub advance-requires : goal.advance-requires
advance-requires c = grind (arith, common_steps)

pub returns-then-taken-gt0-clause-ok : goal.returns-then-taken-gt0-clause-ok
returns-then-taken-gt0-clause-ok c = grind (arith, common_steps)
