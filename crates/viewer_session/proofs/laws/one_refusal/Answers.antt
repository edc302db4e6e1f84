use Rattle.std.proofs.Common.{◌++◌}
use Rattle.viewer_session.proofs.Pieces.{ends_more}
use Rattle.viewer_session.proofs.Refused.{one_fault}
use Rattle.viewer_session.proofs.Same.{alike_stopped}
use Rattle.viewer_session.proofs.laws.one_refusal.Goals as goal

pub returns-clause-one_end : goal.returns-clause-one_end
returns-clause-one_end c = λ s t stream told put messages others f g same a b m n.
    one_fault s.width s.height s.name s.reader t.reader stream messages others (told ++ s.due) (put ++ t.due) f g a (alike_stopped s t stream put others g same b) m n

pub returns-clause-longer : goal.returns-clause-longer
returns-clause-longer c = λ s stream more told messages f a.
    ends_more s.width s.height s.name s.reader stream more messages (told ++ s.due) f a
