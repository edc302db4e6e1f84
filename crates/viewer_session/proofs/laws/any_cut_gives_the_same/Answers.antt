use Rattle.std.proofs.Common.{◌++◌}
use Rattle.viewer_session.proofs.Same.{same_stands, alike_after}
use Rattle.viewer_session.proofs.laws.any_cut_gives_the_same.Goals as goal

pub returns : goal.returns
returns c = λ s t stream told put messages others same a b.
    same_stands s.width s.height s.name s.heard t.heard s.reader t.reader stream messages others (told ++ s.due) (put ++ t.due) a (alike_after s t stream put others same b)
