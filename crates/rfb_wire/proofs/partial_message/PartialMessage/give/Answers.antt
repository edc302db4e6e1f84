use Rattle.rfb_wire.proofs.partial_message.PartialMessage.give.Goals as goal

pub returns-in_err-push-clause-at : goal.returns-in_err-push-clause-at
returns-in_err-push-clause-at c = rw c.replace-whole.ensures.after (c.new.ensures.at c.args.screen.format c.args.screen.size.width c.args.screen.size.height)

pub returns-clause-at : goal.returns-clause-at
returns-clause-at c = rw c.replace-whole.ensures.after (c.new.ensures.at c.args.screen.format c.args.screen.size.width c.args.screen.size.height)
