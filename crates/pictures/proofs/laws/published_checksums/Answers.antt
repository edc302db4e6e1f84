use Rattle.std.proofs.Common.{refl}
use Rattle.pictures.specs.Checksums.{crc_bits, next_crc, sum_of_sums}
use Rattle.pictures.proofs.laws.published_checksums.Goals as goal

pub returns-clause-crc : goal.returns-clause-crc
unfolding crc_bits next_crc
returns-clause-crc c = refl

pub returns-clause-adler : goal.returns-clause-adler
unfolding sum_of_sums
returns-clause-adler c = refl
