use Rattle.host_session.specs.Session.{expected_of}
use Rattle.host_session.proofs.Means.{ends_means, given_means}
use Rattle.host_session.proofs.laws.a_stopped_session_follows_its_stream.Goals as goal

pub returns-clause-refused : goal.returns-clause-refused
returns-clause-refused c = λ s stream said messages f is. ends_means (expected_of s) s.kept s.reader stream messages said f is

pub returns-clause-given : goal.returns-clause-given
returns-clause-given c = λ s stream messages is. given_means (expected_of s) s.kept s.reader stream messages is
