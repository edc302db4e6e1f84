-- The blocks of an FBS file: data, padding and a time. All the data in a row are the file's stream.
use Rattle.std.specs.Prelude.{◌≡◌, ℕ, ◌-◌, ◌%◌, Bool, true, ◌&&◌, nat_eq, nat_lt, List, [], ◌∷◌, ◌++◌, length, take, drop, replicate, slice_index, if◌then◌else◌}
use Rattle.std.specs.List.{flat_map}
use Rattle.std.specs.Str.{bytes_eq}
use Rattle.terms.specs.Reading.{Reading, Got, More, ◌>>=◌, field}
use Rattle.terms.specs.Number.{u32_at}
use Rattle.client_wire.specs.Stream.{Part, Reads}
use Rattle.terms.specs.declared.wire_fault.WireFault.{WireFault}

-- the data of a block, whatever pads them, and the time after them in milliseconds
pub record Block : Type 0 where
  pub content : List ℕ
  pub padding : List ℕ
  pub time : ℕ

-- how many bytes pad so many to a multiple of four
abbrev pub padding_length : ℕ → ℕ
padding_length n = (4 - n % 4) % 4

-- a block whose data have this length
unfoldable pub rest_of_block : ℕ → List ℕ → Reading Block WireFault
rest_of_block n bytes = field n bytes >>= λ content following. field (padding_length n) following >>= λ padding last.
    field 4 last >>= λ time rest. Got (record { content = content; padding = padding; time = u32_at time 0 }) rest

-- A block: the length of its data in four bytes, the data, the padding, and the time in four bytes.
-- No block is a fault: it is whole, or too short.
unfoldable pub block_at : List ℕ → Reading Block WireFault
block_at bytes = field 4 bytes >>= λ head rest. rest_of_block (u32_at head 0) rest

abbrev pub content_of : Part Block → List ℕ
content_of p = p.message.content

-- the stream of whole blocks, and the time of each of its bytes: that of the byte's block
abbrev pub data_of : List (Part Block) → List ℕ
data_of blocks = flat_map content_of blocks

abbrev pub block_times : Part Block → List ℕ
block_times p = replicate (length (content_of p)) p.message.time

abbrev pub times_of : List (Part Block) → List ℕ
times_of blocks = flat_map block_times blocks

-- the data that are there of a block that isn't whole
abbrev pub begun : List ℕ → List ℕ
begun tail = if nat_lt (length tail) 4 then [] else take (u32_at tail 0) (drop 4 tail)

-- 'FBS 001.'
abbrev pub magic : List ℕ
magic = 70 ∷ 66 ∷ 83 ∷ 32 ∷ 48 ∷ 48 ∷ 49 ∷ 46 ∷ []

abbrev pub is_digit : ℕ → Bool
is_digit b = nat_lt 47 b && nat_lt b 58

-- the first twelve bytes: 'FBS 001.', any three digits, and a newline
unfoldable pub is_start : List ℕ → Bool
is_start bytes = bytes_eq (take 8 bytes) magic && is_digit (slice_index bytes 8) && is_digit (slice_index bytes 9)
    && is_digit (slice_index bytes 10) && nat_eq (slice_index bytes 11) 10

-- The file begins as such a file does; whole blocks follow, and then a tail that is no whole block.
pub record Laid (file : List ℕ) (blocks : List (Part Block)) (tail : List ℕ) : Type 0 where
  pub start : is_start (take 12 file) ≡ true
  pub reads : Reads block_at (drop 12 file) blocks tail
  pub unfinished : block_at tail ≡ More

-- all data that are there
abbrev pub stream_of : List (Part Block) → List ℕ → List ℕ
stream_of blocks tail = data_of blocks ++ begun tail
