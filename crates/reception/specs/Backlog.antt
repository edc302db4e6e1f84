-- What waits to be committed, in bytes.
use Rattle.std.specs.Prelude.{ℕ, ◌+◌, ◌-◌, ◌^◌, min}

-- how many bytes of messages were accepted, and how many were committed, as far as was told. Two
-- threads tell it: one may tell that bytes are committed before the other tells that they were accepted
pub record Told : Type 0 where
  pub accepted : ℕ
  pub committed : ℕ

-- how many bytes may wait before the host isn't read from any more
abbrev pub room : ℕ
room = 2 ^ 26

-- how many wait
abbrev pub waiting : Told → ℕ
waiting t = t.accepted - t.committed

-- so many more; what is more than 64 bits hold isn't counted
abbrev pub more : ℕ → ℕ → ℕ
more count bytes = min (count + bytes) (2 ^ 64 - 1)
