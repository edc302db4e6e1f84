use Rattle.viewer_session.proofs.session.Session.advance_to.Goals as goal

pub returns-clause-right : goal.returns-clause-right
returns-clause-right c = λ head seen messages right stands at. c.advance_to.ensures.right head seen messages (rw (← c.self.view_is) at right) stands at
