-- The parts of a PNG file (RFC 2083) and of the zlib stream in it (RFC 1950, RFC 1951).
use Rattle.std.specs.Prelude.{ℕ, zero, suc, ◌+◌, ◌-◌, ◌/◌, ◌%◌, List, [], ◌∷◌, ◌++◌, length, take, drop}
use Rattle.pictures.specs.Checksums.{crc32}

-- a number in four bytes, the highest first
abbrev pub big_endian : ℕ → List ℕ
big_endian n = n / 16777216 ∷ n / 65536 % 256 ∷ n / 256 % 256 ∷ n % 256 ∷ []

-- a chunk: its length, its type, its data, and the CRC of the last two (RFC 2083, 3.2)
abbrev pub chunk : List ℕ → List ℕ → List ℕ
chunk kind content = big_endian (length content) ++ (kind ++ (content ++ big_endian (crc32 (kind ++ content))))

-- a stored block, which isn't the last one: three bits of zeros and the rest of their byte, the
-- length in two bytes and its complement, each with the lower byte first, and the bytes themselves
-- (RFC 1951, 3.2.4)
abbrev pub stored_block : List ℕ → List ℕ
stored_block xs = (0 ∷ length xs % 256 ∷ length xs / 256 ∷ (65535 - length xs) % 256 ∷ (65535 - length xs) / 256 ∷ []) ++ xs

-- how many bytes a stored block has at most
unfoldable pub longest_block : ℕ
longest_block = 65535

-- bytes in so many stored blocks, each but the last one as long as a block may be
unfoldable pub stored_blocks : ℕ → List ℕ → List ℕ
stored_blocks zero xs = []
stored_blocks (suc n) xs = stored_block (take longest_block xs) ++ stored_blocks n (drop longest_block xs)

-- bytes in as few stored blocks as hold them
abbrev pub stored : List ℕ → List ℕ
stored xs = stored_blocks ((length xs + 65534) / 65535) xs
