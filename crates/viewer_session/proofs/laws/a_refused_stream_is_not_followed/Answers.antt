use Rattle.std.proofs.Common.{◌++◌}
use Rattle.viewer_session.proofs.Same.{stands_or_ends, alike_stopped}
use Rattle.viewer_session.proofs.laws.a_refused_stream_is_not_followed.Goals as goal

pub returns : goal.returns
returns c = λ s t stream told put messages others f same a b.
    stands_or_ends s.width s.height s.name s.heard s.reader t.reader stream messages others (told ++ s.due) (put ++ t.due) f a (alike_stopped s t stream put others f same b)
