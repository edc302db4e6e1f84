use Rattle.std.proofs.Common.{◌++◌}
use Rattle.host_session.specs.Session.{expected_of}
use Rattle.host_session.proofs.Means.{means}
use Rattle.host_session.proofs.laws.a_session_follows_its_stream.Goals as goal

pub returns : goal.returns
returns c = λ s stream sent messages is. means (expected_of s) s.position s.kept s.reader stream messages (sent ++ s.due) is
