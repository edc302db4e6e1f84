use Rattle.host_session.proofs.handshake.Handshake.take_some.Goals as goal

pub returns-in-Rest-clause-taking : goal.returns-in-Rest-clause-taking
returns-in-Rest-clause-taking c = c.take_in_rest.ensures.taking c.args.expected c.args.due.now.items
