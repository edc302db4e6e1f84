-- Numbers of more than one byte stand with their higher byte first (RFC 6143, section 7).
use Rattle.std.specs.Prelude.{ℕ, ℤ, pos, negsuc, suc, ◌+◌, ◌*◌, ◌^◌, ◌-◌, ◌/◌, ◌%◌, ◌<◌, nat_lt, List, [], ◌∷◌, slice_index, if◌then◌else◌}

-- the numbers of a field, from its byte i on
abbrev pub u16_at : List ℕ → ℕ → ℕ
u16_at f i = 256 * slice_index f i + slice_index f (i + 1)

abbrev pub u32_at : List ℕ → ℕ → ℕ
u32_at f i = 65536 * u16_at f i + u16_at f (i + 2)

-- the signed number that four bytes are, in two's complement
abbrev pub signed : ℕ → ℤ
signed n = if nat_lt n (2 ^ 31) then pos n else negsuc (2 ^ 32 - suc n)

-- the bytes of a number that two bytes hold, and of one that four hold
abbrev pub u16_bytes : ℕ → List ℕ
u16_bytes n = n / 256 ∷ n % 256 ∷ []

abbrev pub u32_bytes : ℕ → List ℕ
u32_bytes n = n / 16777216 ∷ n / 65536 % 256 ∷ n / 256 % 256 ∷ n % 256 ∷ []

-- a signed number as an unsigned one, in two's complement
abbrev pub unsigned : ℤ → ℕ
unsigned (pos n) = n
unsigned (negsuc n) = 2 ^ 32 - suc n

-- a signed number that four bytes hold
abbrev pub FitsFourBytes : ℤ → Type 0
FitsFourBytes (pos n) = n < 2 ^ 31
FitsFourBytes (negsuc n) = n < 2 ^ 31
