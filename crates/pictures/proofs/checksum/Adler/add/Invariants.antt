use Rattle.std.proofs.Common.{◌≡◌, ◌<◌, ℕ, List, ◌++◌, take}
use Rattle.pictures.specs.Checksums.{first_sum, second_sum}
use Rattle.pictures.proofs.checksum.Adler.add.Given as goal

abbrev pub invariant-loop-byte : goal.invariant-loop-byte
invariant-loop-byte l = record {
  first : l.first < 65521;
  second : l.second < 65521;
  sums : (xs : List ℕ) → l.fn.self.first ≡ first_sum xs → l.fn.self.second ≡ second_sum xs
      → (l.first ≡ first_sum (xs ++ take l.byte-index l.bytes)) × (l.second ≡ second_sum (xs ++ take l.byte-index l.bytes));
}
