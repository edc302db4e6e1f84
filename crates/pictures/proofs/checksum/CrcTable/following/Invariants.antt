use Rattle.std.proofs.Common.{◌≡◌, take, fold}
use Rattle.pictures.specs.Checksums.{next_crc}
use Rattle.pictures.proofs.checksum.CrcTable.following.Given as goal

abbrev pub invariant-loop-byte : goal.invariant-loop-byte
invariant-loop-byte l = l.register ≡ fold next_crc l.before (take l.byte-index l.bytes)
