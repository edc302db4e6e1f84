use Rattle.std.proofs.Common.{◌<◌, ap, ◌∙◌, arith}
use Rattle.rfb_wire.specs.PartialMessage.{passed_in}
use Rattle.client_wire.proofs.Streams.{pass_goes}
use Rattle.rfb_wire.proofs.Over.{pass_ends, over_goes}
use Rattle.rfb_wire.specs.Grammar.{message_at, message_limit}
use Rattle.rfb_wire.specs.Stream.{given}
use Rattle.rfb_wire.proofs.partial_message.PartialMessage.pass.Goals as goal

pub returns-then-taken-over-clause-moves : goal.returns-then-taken-over-clause-moves
returns-then-taken-over-clause-moves c = λ old rest taken s is.
    pass_ends c.args.screen.format c.args.screen.size.width c.args.screen.size.height c.args.self.now.bytes.items c.new.result.bytes.items c.args.over (passed_in c.new.result.over) old rest taken
    c.requires.over s (is ∙ c.if-taken-over.true) c.new.ensures.none (ap passed_in c.new.ensures.over)

pub returns-else-taken-over-clause-at : goal.returns-else-taken-over-clause-at
returns-else-taken-over-clause-at c =
    let few : c.min-taken.result < c.args.over.left = omega arith in
    over_goes (message_limit c.args.screen.format) c.args.screen.size.width c.args.screen.size.height c.min-taken.result c.args.self.now.bytes.items c.args.over c.requires.over few

pub returns-else-taken-over-clause-moves : goal.returns-else-taken-over-clause-moves
returns-else-taken-over-clause-moves c = λ old rest taken s is.
    pass_goes (message_at (message_limit c.args.screen.format) c.args.screen.size.width c.args.screen.size.height) (given c.args.screen.format c.args.screen.size.width c.args.screen.size.height) c.args.self.now.bytes.items c.args.over.passed c.min-taken.result old rest taken s is
