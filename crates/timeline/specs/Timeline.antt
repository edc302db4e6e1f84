-- Which stretches tell of which blocks.
use Rattle.std.specs.Prelude.{◌≡◌, ◌<◌, ◌+◌, ◌-◌, ◌/◌, ◌^◌, ◌⊎◌, ℕ, List, [], ◌∷◌, ◌++◌, Option, None, Some, length, min, sum_by}
use Rattle.std.specs.List.{AllByRecursion}
use Rattle.timeline.specs.declared.stretch.Block.{Block}
use Rattle.timeline.specs.declared.stretch.Stretch.{Stretch}

-- blocks of these times lie in the same window of so many milliseconds
abbrev pub AreTogether : Option ℕ → ℕ → ℕ → Type 0
AreTogether None one other = ⊥
AreTogether (Some every) one other = (0 < every) × (one / every ≡ other / every)

-- as far as 64 bits count
abbrev pub counted : ℕ → ℕ
counted n = min n (2 ^ 64 - 1)

-- the stretch tells of these blocks, one or more, of which the first has this number; all of them
-- lie in its window
abbrev pub IsOf : Option ℕ → ℕ → List Block → Stretch → Type 0
IsOf every number [] stretch = ⊥
IsOf every number (first ∷ more) stretch =
    (stretch ≡ record { time = first.time; message = first.message; block = counted number; updates = counted (sum_by (λ b. b.updates) (first ∷ more)) })
    × AllByRecursion (λ b. AreTogether every first.time b.time) more

-- what follows on a stretch doesn't begin in its window
abbrev pub IsWhole : Option ℕ → Stretch → List Block → Type 0
IsWhole every stretch [] = Unit {0}
IsWhole every stretch (block ∷ _) = AreTogether every stretch.time block.time → ⊥

-- The stretches tell of just these blocks, in their order, of which the first has this number: each
-- of a run of them in the same window, and of all of that run.
abbrev pub Tell : Option ℕ → ℕ → List Block → List Stretch → Type 0
Tell every number blocks [] = blocks ≡ []
Tell every number blocks (stretch ∷ stretches) =
    (run : List Block) × (rest : List Block) × (blocks ≡ run ++ rest) × IsOf every number run stretch × IsWhole every stretch rest
    × Tell every (number + length run) rest stretches

-- what a timeline has
pub record Told : Type 0 where
  pub every : Option ℕ  -- the milliseconds of a window
  pub stretches : List Stretch
  pub next : ℕ  -- the number of the block that follows

-- A timeline tells of just these blocks, of which the first has this number.
pub record TellsOf (from : ℕ) (blocks : List Block) (t : Told) : Type 0 where
  pub next : t.next ≡ counted (from + length blocks)
  pub stretches : Tell t.every from blocks t.stretches

-- a block of this time isn't of the last stretch
abbrev pub BeginsAnother : Option ℕ → List Stretch → ℕ → Type 0
BeginsAnother every stretches time = (before : List Stretch) (last : Stretch) → stretches ≡ before ++ last ∷ [] → AreTogether every last.time time → ⊥

-- a stretch, with one more block
abbrev pub joined : Stretch → Block → Stretch
joined stretch block = record stretch { updates = counted (stretch.updates + block.updates) }

-- a stretch of this block alone
abbrev pub begun : ℕ → Block → Stretch
begun number block = record { time = block.time; message = block.message; block = number; updates = block.updates }

-- the last stretch has one more block
pub record IsJoined (every : Option ℕ) (old : List Stretch) (block : Block) (new : List Stretch) : Type 0 where
  pub before : List Stretch
  pub last : Stretch
  pub was : old ≡ before ++ last ∷ []
  pub together : AreTogether every last.time block.time
  pub is : new ≡ before ++ joined last block ∷ []

-- another stretch begins
pub record IsBegun (every : Option ℕ) (old : List Stretch) (number : ℕ) (block : Block) (new : List Stretch) : Type 0 where
  pub another : BeginsAnother every old block.time
  pub is : new ≡ old ++ begun number block ∷ []

-- the block of this number is told of, too
abbrev pub IsFollowed : Option ℕ → List Stretch → ℕ → Block → List Stretch → Type 0
IsFollowed every old number block new = IsJoined every old block new ⊎ IsBegun every old number block new
