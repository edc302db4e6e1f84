-- A tile whose pixels are numbers.
use Rattle.std.specs.Prelude.{◌≡◌, ℕ, ◌+◌, ◌*◌, ◌/◌, ◌%◌, ◌<◌, List, slice_index}

-- the first so many pixels of a tile of width tw are those of the rectangle, whose rows have w
-- pixels
abbrev pub AreTileNumbers : List ℕ → ℕ → ℕ → ℕ → ℕ → List ℕ → ℕ → Type 0
AreTileNumbers numbers w left top tw tile count =
    (k : ℕ) → k < count → slice_index tile k ≡ slice_index numbers ((top + k / tw) * w + (left + k % tw))
