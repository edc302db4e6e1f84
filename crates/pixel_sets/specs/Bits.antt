-- Sets of numbers, kept as bits of words of 64.
use Rattle.std.specs.Prelude.{◌≡◌, ℕ, ◌/◌, ◌%◌, ◌≤◌, ◌&&◌, nat_eq, nat_le, nat_lt, Bool, true, List, slice_index_or, Option, Some, None}
use Rattle.std.specs.Int.{bit_at}
use Rattle.pixel_sets.specs.declared.bits.Ends.{Ends}

-- this bit of a word is 1
abbrev pub bit : ℕ → ℕ → Bool
bit word i = nat_eq (bit_at word i) 1

-- the number is in the set: its bit is 1
unfoldable pub is_set : List ℕ → ℕ → Bool
is_set words k = bit (slice_index_or words (k / 64) 0) (k % 64)

-- the number is from the first to below the second
abbrev pub is_between : ℕ → ℕ → ℕ → Bool
is_between from to k = nat_le from k && nat_lt k to

-- the least and the greatest of the numbers that pass a test
pub record AreEnds (p : ℕ → Bool) (ends : Ends) : Type 0 where
  pub first : p ends.first ≡ true
  pub last : p ends.last ≡ true
  pub between : (k : ℕ) → p k ≡ true → (ends.first ≤ k) × (k ≤ ends.last)

-- or none passes
abbrev pub AreEndsOf : (ℕ → Bool) → Option Ends → Type 0
AreEndsOf p None = (k : ℕ) → p k ≡ true → ⊥
AreEndsOf p (Some ends) = AreEnds p ends

-- the least number that passes a test
pub record IsFirst (p : ℕ → Bool) (first : ℕ) : Type 0 where
  pub passes : p first ≡ true
  pub least : (k : ℕ) → p k ≡ true → first ≤ k

-- or none passes
abbrev pub IsFirstOf : (ℕ → Bool) → Option ℕ → Type 0
IsFirstOf p None = (k : ℕ) → p k ≡ true → ⊥
IsFirstOf p (Some first) = IsFirst p first
