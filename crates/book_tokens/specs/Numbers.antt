-- Numbers that are given once each.
use Rattle.std.specs.Prelude.{◌≡◌, ◌==◌, ◌+◌, ◌≤◌, if◌then◌else◌, ℕ, Bool, true, false, List, [], ◌∷◌, ◌++◌, take, drop}
use mathlib.Core.Option.{some}
use lib.ListN.{get_elem?}
use Rattle.atomic_table.specs.Seated.{TableId}
use Rattle.atomic_table.specs.Table.{Me}
use Rattle.book_tokens.specs.declared.numbers.Hand.{Hand}

-- the name of no cell
abbrev pub no_table : TableId
no_table = record { words = 0; slots = 0; views_name = 0; atom = 0; block = 0; offset = 0; slot_names = [] }

-- how often x stands in a list
abbrev pub times : ℕ → List ℕ → ℕ
times x [] = 0
times x (y ∷ ys) = (if x == y then 1 else 0) + times x ys

-- how often x is held, in all hands
abbrev pub held_times : ℕ → List Hand → ℕ
held_times x [] = 0
held_times x (v ∷ vs) = times x v.numbers + held_times x vs

-- the hand that gives numbers, from this one on
abbrev pub giver : ℕ → Hand
giver next = record { gives = true; next = next; numbers = [] }

-- a hand that holds these numbers
abbrev pub holder : List ℕ → Hand
holder numbers = record { gives = false; next = 0; numbers = numbers }

abbrev pub IsHolder : Hand → Type 0
IsHolder v = v ≡ holder v.numbers

-- what is left with the giver, and what it gave: its next number
abbrev pub giver_next : Hand → Hand
giver_next v = record { gives = v.gives; next = v.next + 1; numbers = v.numbers }

abbrev pub holder_if : Bool → ℕ → Hand
holder_if true n = holder (n ∷ [])
holder_if false n = holder []

abbrev pub given : Hand → Hand
given v = holder_if v.gives v.next

-- the first of its numbers, and the others
abbrev pub first_of : Hand → Hand
first_of v = record { gives = v.gives; next = v.next; numbers = take 1 v.numbers }

abbrev pub others_of : Hand → Hand
others_of v = holder (drop 1 v.numbers)

-- nothing that it holds, and all
abbrev pub none_of : Hand → Hand
none_of v = record { gives = v.gives; next = v.next; numbers = [] }

abbrev pub all_of : Hand → Hand
all_of v = holder v.numbers

abbrev pub both_of : Hand → Hand → Hand
both_of v w = record { gives = v.gives; next = v.next; numbers = v.numbers ++ w.numbers }

-- One hand gives numbers. No number is held twice, and none from the next one on.
pub record AreOnce (views : List Hand) : Type 0 where
  pub seat : ℕ
  pub next : ℕ
  pub giver_is : (by : ℕ) (v : Hand) → get_elem? views by ≡ some v → v.gives ≡ true → (by ≡ seat) × (v.next ≡ next)
  pub once : (x : ℕ) → held_times x views ≤ 1
  pub not_yet : (x : ℕ) → next ≤ x → held_times x views ≡ 0

-- a seat stays as it is, and its hand holds no number twice
abbrev pub Learns : Me (Unit {0}) Hand → Me (Unit {0}) Hand → Type 0
Learns v w = (w ≡ v) × ((x : ℕ) → times x v.0.numbers ≤ 1)
