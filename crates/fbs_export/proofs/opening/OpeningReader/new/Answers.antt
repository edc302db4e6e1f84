use Rattle.std.proofs.Common.{◌≡◌, [], refl, arith}
use Rattle.fbs_export.proofs.Openings.{no_opening}
use Rattle.fbs_export.proofs.opening.OpeningReader.new.Goals as goal

pub returns-clause-start : goal.returns-clause-start
returns-clause-start c =
    let none : c.new.result.items ≡ [] = c.new.ensures.items in
    rw none (record { is = refl; short = omega arith; waits = no_opening })
