use Rattle.std.proofs.Common.{◌≡◌, ℕ, ◌<◌, vec_len, slice_index}
use Rattle.pictures.specs.Checksums.{crc_bits}
use Rattle.pictures.proofs.checksum.CrcTable.new.Given as goal

abbrev pub invariant-loop-byte : goal.invariant-loop-byte
invariant-loop-byte l = record {
  length : vec_len l.entries ≡ l.byte;
  right : (n : ℕ) → n < l.byte → slice_index l.entries.items n ≡ crc_bits 8 n;
}
