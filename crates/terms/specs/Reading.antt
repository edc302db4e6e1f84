-- Reading a list of bytes from its front, field by field. The bytes begin with a whole thing, or
-- with a fault, or are too few for either.
use Rattle.std.specs.Prelude.{◌≡◌, ℕ, Bool, List, length, take, drop, ◌++◌, nat_lt, if◌then◌else◌}

pub data Reading (A E : Type 0) : Type 0 where
  -- a value, and the bytes after it
  Got : A → List ℕ → Reading A E
  -- no fault, and too few bytes
  More : Reading A E
  -- the first fault
  Bad : E → Reading A E

-- what a value, once it is read, says about the bytes after it
infixl 10 ◌>>=◌
abbrev pub ◌>>=◌ : {A B E : Type 0} → Reading A E → (A → List ℕ → Reading B E) → Reading B E
(Got x rest) >>= f = f x rest
More >>= f = More
(Bad e) >>= f = Bad e

-- n bytes, once all of them are there: so a field is judged at its last byte, and not before
unfoldable pub field : {E : Type 0} → ℕ → List ℕ → Reading (List ℕ) E
field n bytes = if nat_lt (length bytes) n then More else Got (take n bytes) (drop n bytes)

-- a fault if a test fails
abbrev pub guard : {A E : Type 0} → Bool → E → Reading A E → Reading A E
guard passes fault next = if passes then next else Bad fault

-- What is neither whole nor faulty within its first `limit` bytes is a fault, as soon as there is
-- one byte more.
abbrev pub beyond : {A E : Type 0} → ℕ → E → List ℕ → Reading A E → Reading A E
beyond limit fault bytes (Got x rest) = Got x (rest ++ drop limit bytes)
beyond limit fault bytes More = if nat_lt limit (length bytes) then Bad fault else More
beyond limit fault bytes (Bad e) = Bad e

unfoldable pub within : {A E : Type 0} → ℕ → E → (List ℕ → Reading A E) → List ℕ → Reading A E
within limit fault read bytes = beyond limit fault bytes (read (take limit bytes))

-- what bytes say, they say whatever follows them
abbrev pub Extends : {A E : Type 0} → Reading A E → List ℕ → Reading A E → Type 0
Extends (Got x rest) more longer = longer ≡ Got x (rest ++ more)
Extends More more longer = Unit {0}
Extends (Bad e) more longer = longer ≡ Bad e

abbrev pub IsLocal : {A E : Type 0} → (List ℕ → Reading A E) → Type 0
IsLocal read = (bytes more : List ℕ) → Extends (read bytes) more (read (bytes ++ more))
