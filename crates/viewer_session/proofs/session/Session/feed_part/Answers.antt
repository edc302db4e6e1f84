use Rattle.std.proofs.Common.{rules}
use Rattle.viewer_session.proofs.session.Session.feed_part.Goals as goal

pub returns-in-Err-clause-kept : goal.returns-in-Err-clause-kept
returns-in-Err-clause-kept c = record {
  width = search rules;
  height = search rules;
  name = search rules;
  screen = search rules;
  position = search rules;
  right = λ head seen list right. c.take_all.ensures.right head seen list (rw (← c.self.view_is) at right);
}

pub returns-clause-kept : goal.returns-clause-kept
returns-clause-kept c = record {
  width = search rules;
  height = search rules;
  name = search rules;
  screen = search rules;
  position = search rules;
  right = λ head seen list right. c.take_all.ensures.right head seen list (rw (← c.self.view_is) at right);
}
