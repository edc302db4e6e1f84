-- Pixels as numbers: how many have another one, and a list that counts them.
use Rattle.std.specs.Prelude.{◌≡◌, ⊤, ℕ, zero, suc, ◌==◌, false, List, [], ◌∷◌, count_by, not, if◌then◌else◌}
use Rattle.rre.specs.declared.cover.Count.{Count}

-- how many pixels have another one
abbrev pub others_in : ℕ → List ℕ → ℕ
others_in number numbers = count_by (λ other. not (number == other)) numbers

-- how often a number is counted, where it stands first
abbrev pub counted : List Count → ℕ → ℕ
counted [] number = 0
counted (count ∷ others) number = if number == count.number then count.times else counted others number

-- no count is of the number
abbrev pub IsNew : List Count → ℕ → Type 0
IsNew [] number = ⊤
IsNew (count ∷ others) number = ((number == count.number) ≡ false) × IsNew others number

-- the first that is of it has this index
abbrev pub IsFirstOf : List Count → ℕ → ℕ → Type 0
IsFirstOf [] number index = ⊥
IsFirstOf (count ∷ others) number zero = number ≡ count.number
IsFirstOf (count ∷ others) number (suc index) = ((number == count.number) ≡ false) × IsFirstOf others number index
