use Rattle.std.proofs.Common.{ap, arith}
use Rattle.rfb_wire.specs.PartialMessage.{passed_in}
use Rattle.rfb_wire.proofs.Over.{once_ends, over_at_once, over_starts}
use Rattle.rfb_wire.specs.Grammar.{message_limit}
use Rattle.rfb_wire.proofs.partial_message.PartialMessage.read_over.Goals as goal

pub returns-then-left-eq0-clause-moves : goal.returns-then-left-eq0-clause-moves
returns-then-left-eq0-clause-moves c = λ old.
    let link = rw c.if-left-eq0.true at c.requires.link in
    once_ends c.args.screen.format c.args.screen.size.width c.args.screen.size.height c.args.self.now.bytes.items c.new.result.bytes.items (passed_in c.new.result.over) old
    (over_at_once (message_limit c.args.screen.format) c.args.screen.size.width c.args.screen.size.height c.args.self.now.bytes.items c.requires.head link) c.new.ensures.none (ap passed_in c.new.ensures.over)

pub returns-else-left-eq0-clause-at : goal.returns-else-left-eq0-clause-at
returns-else-left-eq0-clause-at c =
    over_starts (message_limit c.args.screen.format) c.args.screen.size.width c.args.screen.size.height c.args.left c.args.self.now.bytes.items c.requires.head c.requires.short c.requires.link (omega arith) c.requires.bound
