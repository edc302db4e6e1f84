use Rattle.std.proofs.Common.{◌≡◌}
use Rattle.pictures.specs.Checksums.{crc_bits}
use Rattle.pictures.proofs.checksum.entry.Given as goal

abbrev pub invariant-loop-bit : goal.invariant-loop-bit
invariant-loop-bit l = l.register ≡ crc_bits l._bit l.byte
