use Rattle.std.proofs.Common.{◌≡◌, ◌++◌}
use Rattle.host_session.specs.Session.{expected_of, told_by}
use Rattle.host_session.proofs.Means.{means}
use Rattle.host_session.proofs.Same.{same_sessions}
use Rattle.host_session.proofs.laws.any_cut_gives_the_same.Goals as goal

pub returns : goal.returns
returns c = λ s t stream sent put messages others format size x y.
    let same : expected_of s ≡ expected_of t = cc in
    same_sessions (expected_of s) (expected_of t) stream (sent ++ s.due) (put ++ t.due) (told_by s.reader s.kept) (told_by t.reader t.kept) messages others same
    (means (expected_of s) s.position s.kept s.reader stream messages (sent ++ s.due) x)
    (means (expected_of t) t.position t.kept t.reader stream others (put ++ t.due) y)
