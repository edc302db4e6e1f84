use Rattle.std.proofs.Common.{rules, ◌≡◌, ◌++◌, subst, sym}
use Rattle.host_session.specs.Session.{expected_of, told_by, unfinished_in}
use Rattle.host_session.specs.Conversation.{Unfinished}
use Rattle.host_session.proofs.Means.{unfinished_means}
use Rattle.host_session.proofs.session.HostSession.unfinished.Goals as goal

pub returns-in-Some-clause-left : goal.returns-in-Some-clause-left
returns-in-Some-clause-left c = λ stream sent messages is.
    let s = c.args.self.now in
    let count : c.unfinished.result ≡ unfinished_in s.reader = search (rules) in
    subst (λ n. Unfinished (expected_of s) stream (told_by s.reader s.kept) messages n) (sym count)
    (unfinished_means (expected_of s) s.position s.kept s.reader stream messages (sent ++ s.due) is)
