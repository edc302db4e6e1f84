use Rattle.std.proofs.Common.{subst, arith}
use Rattle.terms.proofs.Sizes.{are_limits}
use Rattle.rfb_wire.specs.Grammar.{message_limit}
use Rattle.rfb_wire.specs.Host.{IsRecorded}
use Rattle.rfb_wire.proofs.Messages.{read_is_message}
use Rattle.rfb_wire.proofs.message.HostMessage.known.Goals as goal

pub returns-clause-short : goal.returns-clause-short
returns-clause-short c =
    let m = c.args.self.now in
    let recorded : IsRecorded m = subst IsRecorded c.self.view_is c.self.invariant in
    omega (arith, (read_is_message (message_limit m.format) m.width m.height m.bytes m.rectangles recorded).short, (are_limits m.format).text)

pub returns-clause-bounds : goal.returns-clause-bounds
returns-clause-bounds c = are_limits c.args.self.now.format
