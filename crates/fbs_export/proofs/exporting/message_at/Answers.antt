use Rattle.keyed_entries.specs.Entry.{messages_in}
use Rattle.replay.proofs.Shown.{message_after}
use Rattle.fbs_export.proofs.exporting.message_at.Goals as goal

pub returns-clause-message : goal.returns-clause-message
returns-clause-message g c = λ m.
    message_after (messages_in c.args.index.now.blocks) c.args.number c.in-Some.stamped c.pop.new.self.items c.in_ok-messages.messages.items (c.in_ok-messages.ensures.read m) c.in-Some.ensures.items
