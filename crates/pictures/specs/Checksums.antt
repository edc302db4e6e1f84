-- The two checksums of a PNG file: CRC-32 (RFC 2083, 3.4 and 15) and Adler-32 (RFC 1950, 2.2).
use Rattle.std.specs.Prelude.{ℕ, zero, suc, ◌+◌, ◌*◌, ◌/◌, ◌%◌, List, [], ◌∷◌, fold, sum, bit_xor}

-- The register is shifted by a bit; a one that leaves it takes the polynomial off what is left.
abbrev pub crc_bit : ℕ → ℕ
crc_bit c = bit_xor (c % 2 * 0xedb88320) (c / 2)

unfoldable pub crc_bits : ℕ → ℕ → ℕ
crc_bits zero c = c
crc_bits (suc k) c = crc_bit (crc_bits k c)

-- the register after one more byte, whose lowest bit comes first
unfoldable pub next_crc : ℕ → ℕ → ℕ
next_crc c x = crc_bits 8 (bit_xor c x)

-- the register begins with ones, and is inverted at the end
abbrev pub crc32 : List ℕ → ℕ
crc32 xs = bit_xor (fold next_crc 0xffffffff xs) 0xffffffff

-- the sum of the sums after each byte, of which the first begins with s
unfoldable pub sum_of_sums : ℕ → List ℕ → ℕ
sum_of_sums s [] = 0
sum_of_sums s (x ∷ xs) = (s + x) + sum_of_sums (s + x) xs

-- One sum is 1 and all bytes, the other is all values that the first one has; modulo 65521.
abbrev pub first_sum : List ℕ → ℕ
first_sum xs = (1 + sum xs) % 65521

abbrev pub second_sum : List ℕ → ℕ
second_sum xs = sum_of_sums 1 xs % 65521

-- both in one number
abbrev pub adler32 : List ℕ → ℕ
adler32 xs = second_sum xs * 65536 + first_sum xs
