use Rattle.client_wire.specs.PartialMessage.{passed_in}
use Rattle.client_wire.specs.declared.message.ClientMessage.TheVariants as messages
use Rattle.client_wire.proofs.Turns.{over_goes, given_moves, over_whole}
use Rattle.client_wire.proofs.Streams.{pass_goes}
use Rattle.client_wire.specs.Grammar.{message_at}
use Rattle.client_wire.specs.Stream.{itself}
use Rattle.std.proofs.Common.{◌++◌}
use Rattle.client_wire.proofs.partial_message.PartialMessage.pass.Goals as goal

pub returns-then-available-over-clause-moves : goal.returns-then-available-over-clause-moves
returns-then-available-over-clause-moves c = λ rest taken s is.
    given_moves c.give.new.self.bytes.items (passed_in c.give.new.self.position) c.args.out.now.items c.give.new.out.items (rest ++ taken) (messages.Input c.args.over.kind)
    (over_whole c.args.self.now.bytes.items c.args.over rest taken c.requires.over s is)
    c.in_ok-give.ensures.ok c.in_ok-give.ensures.none c.in_ok-give.ensures.passed

pub returns-clause-at : goal.returns-clause-at
returns-clause-at c = over_goes c.args.available c.args.self.now.bytes.items c.args.over c.requires.over c.if-available-over.false

pub returns-clause-moves : goal.returns-clause-moves
returns-clause-moves c = λ rest taken s is.
    pass_goes message_at itself c.args.self.now.bytes.items c.args.over.passed c.args.available c.args.out.now.items rest taken s is
