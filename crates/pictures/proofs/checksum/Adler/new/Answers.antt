use Rattle.std.proofs.Common.{refl}
use Rattle.pictures.specs.Checksums.{sum_of_sums}
use Rattle.pictures.proofs.checksum.Adler.new.Goals as goal

pub returns-clause-second : goal.returns-clause-second
unfolding sum_of_sums
returns-clause-second c = refl
