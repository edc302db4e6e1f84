use Rattle.viewer_session.proofs.session.Session.advance.Goals as goal

pub returns-clause-right : goal.returns-clause-right
returns-clause-right c = rw (← c.self.view_is) c.advance.ensures.right
